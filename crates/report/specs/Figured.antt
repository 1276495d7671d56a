-- The report of figures: what stands at k belongs to task k, or to path k.
use Rattle.std.specs.Prelude.{ℕ, ◌+◌, ◌*◌, List, ◌++◌, get_or, length}
use Rattle.paper.specs.Bytes.{Bytes}
use Rattle.paper.specs.Report.{head_record, task_record, path_record, each}
use Rattle.report.specs.declared.figures.TaskFigures.{TaskFigures}
use Rattle.report.specs.declared.figures.PathFigures.{PathFigures}

-- The record of a task with these figures, which has this number.
unfoldable pub of_task : TaskFigures → ℕ → Bytes
of_task t k = task_record k t.least.0 t.bound.0 t.input.0 t.output.0 t.jobs.0

-- The record of a path with these figures, which has this number.
unfoldable pub of_path : PathFigures → ℕ → Bytes
of_path p q = path_record q p.deadline.0 p.best.0 p.worst.0

-- No task's figures: what stands past the end of a list.
abbrev pub no_task : TaskFigures
no_task = record {
  least = record { 0 = 0 };
  bound = record { 0 = 0 };
  input = record { 0 = 0 };
  output = record { 0 = 0 };
  jobs = record { 0 = 0 };
}

-- No path's figures.
abbrev pub no_path : PathFigures
no_path = record { deadline = record { 0 = 0 }; best = record { 0 = 0 }; worst = record { 0 = 0 } }

-- The record of task k: R-, R+, input jitter, output jitter, jobs looked at.
unfoldable pub task_row : List TaskFigures → ℕ → Bytes
task_row tasks k = of_task (get_or tasks k no_task) k

-- The record of path q: deadline, best, worst.
unfoldable pub path_row : List PathFigures → ℕ → Bytes
path_row paths q = of_path (get_or paths q no_path) q

-- The whole report of figures.
unfoldable pub whole_of : ℕ → List TaskFigures → List PathFigures → Bytes
whole_of sweeps tasks paths =
    head_record sweeps (length tasks) (length paths)
    ++ each (length tasks) (task_row tasks)
    ++ each (length paths) (path_row paths)

-- How long it is.
abbrev pub long_of : List TaskFigures → List PathFigures → ℕ
long_of tasks paths = 14 + 22 * length tasks + 29 * length paths
