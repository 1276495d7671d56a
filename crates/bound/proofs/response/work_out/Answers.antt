-- `work_out` gives the task's bound within limits, or shows that the task leaves them.
use Rattle.std.proofs.Common.{◌≡◌, arith, ap, leb}
use Rattle.std.specs.Bool.{then_some}
use Rattle.std.proofs.lemmas.Bool.{le-leb, lt-leb}
use Rattle.std.proofs.Math.Decide.{dec_le}
use Rattle.paper.specs.Limits.{most_ticks}
use Rattle.paper.specs.Streams.{Stream, delayed}
use Rattle.paper.specs.Windows.{output}
use Rattle.bound.proofs.Looks.{over_small, over_bounded, over_outside}
use Rattle.bound.proofs.response.work_out.Goals as goal

-- The output jitter fits.
pub delayed-output-requires : goal.delayed-output-requires
delayed-output-requires c = omega (arith, over_small c.in_ok-worked.ensures)

-- With an output jitter within limits the task has a bound within limits, and without one it leaves them.
pub returns : goal.returns
unfolding output delayed
returns c =
    let j = c.delayed-output.result.jitter.0 in
    let jitter = ap (λ (M : Stream). M.J) c.delayed-output.ensures in
    let is : c.then_some.result ≡ then_some (leb j most_ticks) c.in_ok-worked.worked = c.then_some.ensures in
    rw is
    (elim (dec_le j most_ticks) [
      | yes l ↦ rw (le-leb j most_ticks l) (over_bounded c.in_ok-worked.ensures (omega arith) (omega (arith, jitter)))
      | no l ↦ rw (lt-leb j most_ticks (omega arith)) (over_outside c.in_ok-worked.ensures (omega (arith, jitter)))
    ])
