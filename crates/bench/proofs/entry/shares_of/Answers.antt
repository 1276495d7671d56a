-- `shares_of` takes a task more each time.
use Rattle.std.proofs.Common.{◌<◌, ◌≡◌, ◌∙◌, refl, ap, length, length-append, get_or, arith}
use Rattle.std.proofs.lemmas.Slice.Zip.{zip_turn, zip_end}
use Rattle.paper.specs.Tables.{Plan}
use Rattle.plan.specs.Tables.{tabulate, row_of, blank}
use Rattle.plan.proofs.Rows.{length_tabulate, tabulate_at, tabulated}
use Rattle.sweep.specs.Rows.{period_of}
use Rattle.sweep.proofs.Rows.{counted, room, row_is}
use Rattle.bench.specs.Rows.{share_row}
use Rattle.bench.specs.Tabled.{Timed}
use Rattle.bench.proofs.entry.shares_of.Goals as goal
use Rattle.bench.proofs.entry.shares_of.Goals.{In-Some}

-- At first there is none.
pub loop-task-init : goal.loop-task-init
unfolding tabulate
loop-task-init c = λ p so. c.new-shares.ensures

-- Each turn takes a task of the plan, by its row and its period.
turn : (c : goal.In-Some) (p : Plan) → Timed p c.args.tasks.now c.args.periods.now
    → (length c.loop-task.yielded < p.tasks)
    × (c.in-Some.task.now ≡ row_of (p.task (length c.loop-task.yielded)))
    × (c.in-Some.period.now ≡ period_of p (length c.loop-task.yielded))
turn c p so =
    let k = length c.loop-task.yielded in
    let next = zip_turn c.args.tasks.now c.args.periods.now c.loop-task.yielded c.into_iter-task-iterator.result
    c.loop-task.task-iterator c.next.new.self c.next.result
    (rw (c.into_iter-task-iterator.ensures.into_iter_gives, c.zip-task-items.ensures.first) c.iter.ensures.rest)
    (rw c.into_iter-task-iterator.ensures.into_iter_gives c.zip-task-items.ensures.second.0)
    c.loop-task.yielded_by (c.in-Some.task, c.in-Some.period) c.in-Some.is c.next.ensures.steps in
    let h : k < p.tasks = omega (arith, counted so.planned, next.0) in
    let period = period_of p 0 in (
      h,
      next.2 blank ∙ row_is so.planned k blank h,
      next.3 period ∙ ap (λ xs. get_or xs k period) so.rows ∙ tabulate_at p.tasks (period_of p) k period h,
    )

-- There is room for a row more.
pub push-requires : goal.push-requires
push-requires c =
    let (p, so) = c.requires in
    let (h, task, period) = turn (goal.at.push-requires c).In-Some p so in
    let long : length c.loop-task.shares.items ≡ length c.loop-task.yielded =
    ap length (c.loop-task.invariant p so) ∙ length_tabulate _ _ in
    (omega arith, omega (arith, h, counted so.planned, room so.planned, long))

-- The next task's share is put last.
pub loop-task-preserved : goal.loop-task-preserved
loop-task-preserved c =
    λ p so.
    let (h, task, period) = turn (goal.at.loop-task-preserved c).In-Some p so in
    rw length-append
    (c.push.ensures.items ∙ tabulated (share_row p) (c.loop-task.invariant p so) (rw (task, period) refl))

-- At the end every task has its own.
pub returns : goal.returns
returns c =
    λ p so.
    let end = zip_end c.args.tasks.now c.args.periods.now c.loop-task.yielded c.into_iter-task-iterator.result
    c.loop-task.task-iterator c.next.new.self c.next.result
    (rw (c.into_iter-task-iterator.ensures.into_iter_gives, c.zip-task-items.ensures.first) c.iter.ensures.rest)
    (rw c.into_iter-task-iterator.ensures.into_iter_gives c.zip-task-items.ensures.second.0)
    c.loop-task.yielded_by c.in-None.is c.next.ensures.steps in
    let done : length c.loop-task.yielded ≡ p.tasks =
    omega (arith, end, counted so.planned, ap length so.rows ∙ length_tabulate p.tasks (period_of p)) in
    rw done at (c.loop-task.invariant p so)
