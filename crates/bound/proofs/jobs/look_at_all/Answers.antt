-- `look_at_all` looks at the jobs one after the other: a window is found or the task leaves the limits, and the look goes on or is over.
use Rattle.std.proofs.Common.{◌-◌, ◌≤◌, ◌<◌, ◌≡◌, max, arith, rules}
use Rattle.std.proofs.Math.Nat.{add-sub_cancel}
use Rattle.paper.specs.Limits.{most_jobs}
use Rattle.theory.specs.Task.Demand.{demand_rises, window_start}
use Rattle.bound.proofs.Interference.{proper}
use Rattle.bound.proofs.Looks.{looking_more, looking_last, looking_beyond, looking_on}
use Rattle.bound.proofs.jobs.look_at_all.Goals as goal

-- The demand rises, and the search may start at the work of the jobs.
pub search-requires-clause-reached : goal.search-requires-clause-reached
search-requires-clause-reached c =
    let p = proper c.args.own c.args.rivals.all.now in
    (demand_rises p c.loop-q.q (omega arith), window_start p c.loop-q.q (omega arith))

-- Without a window within limits the task leaves them.
pub returns-in_err-window : goal.returns-in_err-window
returns-in_err-window c =
    rw c.from_residual.ensures (looking_beyond (omega arith) c.loop-q.invariant c.in_err-window.ensures)

-- A window no longer than d(q+1) ends the look.
pub returns-then-le : goal.returns-then-le
returns-then-le c =
    let w = c.in_ok-window.ensures in
    let larger : c.max-largest.result.0 ≡ max c.loop-q.largest.0 c.minus-delay.result.0 = search rules in
    let apart : c.in_ok-window.window.0 ≤ c.least_distance-apart.result.0 = search rules in
    rw (larger, c.minus-delay.ensures, c.least_distance.ensures)
    (looking_last (omega arith) (omega arith) c.loop-q.invariant w.0 w.1 (omega arith))

-- After a longer window it goes on.
pub loop-q-preserved : goal.loop-q-preserved
loop-q-preserved c =
    let w = c.in_ok-window.ensures in
    let larger : c.max-largest.result.0 ≡ max c.loop-q.largest.0 c.minus-delay.result.0 = search rules in
    let apart : c.least_distance-apart.result.0 < c.in_ok-window.window.0 = search rules in
    rw (larger, c.minus-delay.ensures, c.least_distance.ensures, add-sub_cancel)
    (looking_more (omega arith) c.loop-q.invariant w.0 w.1 (omega arith))

-- When it goes on after as many jobs as the limit, the task leaves the limits.
pub returns : goal.returns
returns c = let done : c.loop-q.q - 1 ≡ most_jobs = omega arith in looking_on (rw done at c.loop-q.invariant)
