-- `periods` takes a task's period more each time.
use Rattle.std.proofs.Common.{◌≡◌, ◌∙◌, ap, length, arith}
use Rattle.plan.specs.Tables.{tabulate}
use Rattle.plan.proofs.Rows.{tabulated}
use Rattle.sweep.specs.Rows.{period_of}
use Rattle.sweep.proofs.Rows.{counted, room}
use Rattle.sweep.proofs.chains.periods.Goals as goal

-- At first there is none.
pub loop-k-init : goal.loop-k-init
unfolding tabulate
loop-k-init c =
    let (p, so) = c.requires in
    record { room = room so; count = ap length c.new-periods.ensures; filled = λ p so. c.new-periods.ensures }

-- The next task is one of the plan's.
pub period_of-requires : goal.period_of-requires
period_of-requires c =
    let (p, so) = c.requires in
    (p, so, omega (arith, counted so))

-- Its period is put last.
pub loop-k-preserved : goal.loop-k-preserved
loop-k-preserved c =
    let so_far = c.loop-k.invariant in
    record {
      room = so_far.room;
      count = omega (arith, c.push.ensures.len);
      filled = λ p so.
          c.push.ensures.items
          ∙ tabulated (period_of p) (so_far.filled p so) (c.period_of.ensures p so (omega (arith, counted so)));
    }

-- At the end every task has its own.
pub returns : goal.returns
returns c p so =
    let done : c.loop-k.k ≡ p.tasks = omega (arith, counted so) in
    rw done at (c.loop-k.invariant.filled p so)
