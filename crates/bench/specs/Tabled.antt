-- The rows that the figures of a plan are worked out from.
use Rattle.std.specs.Prelude.{List, ◌≡◌}
use Rattle.paper.specs.Bytes.{Bytes}
use Rattle.paper.specs.Tables.{Plan, plan_of}
use Rattle.paper.specs.Refusals.{WellFormed}
use Rattle.paper.specs.Report.{Figures}
use Rattle.paper.specs.Answer.{Reported}
use Rattle.stream.specs.declared.kinds.Ticks.{Ticks}
use Rattle.plan.specs.Tables.{task_rows, path_rows}
use Rattle.plan.specs.declared.tasks.Task.{Task}
use Rattle.plan.specs.declared.paths.Path.{Path}
use Rattle.sweep.specs.declared.once.Figure.{Figure}
use Rattle.sweep.specs.Rows.{per_task, period_of}
use Rattle.sweep.specs.Planned.{Planned}
use Rattle.sweep.specs.Ends.{figure_of}
use Rattle.report.specs.declared.figures.TaskFigures.{TaskFigures}
use Rattle.bench.specs.Rows.{task_figures}

-- The rows tell the tasks and the paths of a well-formed plan.
pub record Tabled (s : Bytes) (tasks : List Task) (paths : List Path) : Type 0 where
  pub well : WellFormed s
  pub rows : tasks ≡ task_rows (plan_of s)
  pub parts : paths ≡ path_rows s

-- The rows tell a plan's tasks, and beside them stand their periods.
pub record Timed (p : Plan) (tasks : List Task) (periods : List Ticks) : Type 0 where
  pub planned : Planned p tasks
  pub rows : periods ≡ per_task p (period_of p)

-- The rows tell a plan's tasks, and beside them stand the figures in which its sweeps settled.
pub record Settling (p : Plan) (f : Figures) (tasks : List Task) (settled : List Figure) : Type 0 where
  pub planned : Planned p tasks
  pub reported : Reported p f
  pub rows : settled ≡ per_task p (figure_of p f)

-- The rows tell the paths of a well-formed plan, and beside them stand the figures of its tasks.
pub record Pathed (s : Bytes) (f : Figures) (paths : List Path) (tasks : List TaskFigures) : Type 0 where
  pub well : WellFormed s
  pub parts : paths ≡ path_rows s
  pub reported : Reported (plan_of s) f
  pub rows : tasks ≡ per_task (plan_of s) (task_figures (plan_of s) f)
