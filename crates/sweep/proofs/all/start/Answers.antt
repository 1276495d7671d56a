-- `start` takes a task's C+ more each time.
use Rattle.std.proofs.Common.{◌≡◌, ◌∙◌, ap, length, arith}
use Rattle.plan.specs.declared.tasks.Task.{Task}
use Rattle.plan.specs.Tables.{tabulate}
use Rattle.plan.proofs.Rows.{tabulated}
use Rattle.sweep.specs.Rows.{first_figure, figure}
use Rattle.sweep.proofs.Rows.{counted, room, row_is}
use Rattle.sweep.proofs.all.start.Goals as goal

-- At first there is none.
pub loop-task-init : goal.loop-task-init
unfolding tabulate
loop-task-init c =
    let (p, so) = c.requires in
    record { room = room so; count = ap length c.new-set.ensures; filled = λ p so. c.new-set.ensures }

-- The next task's C+ is put last, with nothing beside it.
pub loop-task-preserved : goal.loop-task-preserved
loop-task-preserved c =
    let so_far = c.loop-task.invariant in
    let none = c.default.ensures in
    record {
      room = so_far.room;
      count = omega (arith, c.push.ensures.len);
      filled = λ p so.
          let own = ap (λ (t : Task). t.most.0) (row_is so c.loop-task.task-index _ (omega (arith, counted so))) in
          c.push.ensures.items
          ∙ tabulated (first_figure p) (so_far.filled p so)
          (λ i. figure (own i) (record { P = none.1.0.0 i; J = none.1.0.1 i }) (none.1.1 i));
    }

-- At the end every task has its own.
pub returns : goal.returns
returns c p so =
    let done : c.loop-task.task-index ≡ p.tasks = omega (arith, counted so) in
    rw done at (c.loop-task.invariant.filled p so)
