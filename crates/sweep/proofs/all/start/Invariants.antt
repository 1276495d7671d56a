-- What the loop of `start` keeps: the tasks so far have their C+.
use Rattle.std.proofs.Common.{◌≤◌, ◌≡◌, length}
use Rattle.paper.specs.Limits.{most_tasks}
use Rattle.paper.specs.Tables.{Plan}
use Rattle.plan.specs.Tables.{tabulate}
use Rattle.sweep.specs.Rows.{first_figure}
use Rattle.sweep.specs.Planned.{Planned}
use Rattle.sweep.proofs.all.start.Given as goal

-- They are as many as the next task's number, for which there is room, and each has its C+.
abbrev pub invariant-loop-task : goal.invariant-loop-task
invariant-loop-task l =
    record {
      room : length l.tasks ≤ most_tasks;
      count : length l.set.items ≡ l.task-index;
      filled : (p : Plan) → Planned p l.tasks → l.set.items ≡ tabulate l.task-index (first_figure p);
    }
