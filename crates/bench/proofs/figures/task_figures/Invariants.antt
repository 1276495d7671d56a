-- `task_figures` takes a task more each time.
use Rattle.std.proofs.Common.{◌≡◌, length}
use Rattle.paper.specs.Tables.{Plan}
use Rattle.paper.specs.Report.{Figures}
use Rattle.plan.specs.Tables.{tabulate}
use Rattle.bench.specs.Rows.{task_figures}
use Rattle.bench.specs.Tabled.{Settling}
use Rattle.bench.proofs.figures.task_figures.Given as goal

-- The loop's invariant: the rows hold the figures of the tasks so far.
abbrev pub invariant-loop-task : goal.invariant-loop-task
invariant-loop-task l = (p : Plan) (f : Figures) → Settling p f l.tasks l.settled
    → l.rows.items ≡ tabulate (length l.yielded) (task_figures p f)
