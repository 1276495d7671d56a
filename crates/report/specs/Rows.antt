-- How long the records of a report are.
use Rattle.std.specs.Prelude.{ℕ, ◌≡◌, refl, length}
use Rattle.paper.specs.Bytes.{bytes, difference}
use Rattle.paper.specs.Report.{record_of, task_record, path_record}
use Rattle.report.specs.declared.figures.TaskFigures.{TaskFigures}
use Rattle.report.specs.declared.figures.PathFigures.{PathFigures}
use Rattle.report.specs.Figured.{of_task, of_path}

-- A task's record is 22 bytes long,
pub task_long : (t : TaskFigures) (k : ℕ) → length (of_task t k) ≡ 22
unfolding of_task task_record record_of bytes
task_long t k = refl

-- a path's 29.
pub path_long : (p : PathFigures) (q : ℕ) → length (of_path p q) ≡ 29
unfolding of_path path_record record_of bytes difference
path_long p q = refl
