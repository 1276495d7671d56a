-- Sums along a path that fit the machine.
use Rattle.std.specs.Prelude.{ℕ, ◌≤◌, ◌<◌, List, length, get_or}
use Rattle.paper.specs.Limits.{most_steps, most_ticks}
use Rattle.paper.specs.Bytes.{Bytes}
use Rattle.report.specs.Figured.{no_task}
use Rattle.report.specs.declared.figures.TaskFigures.{TaskFigures}

-- The R- of task k, by the rows.
abbrev pub least_in : List TaskFigures → ℕ → ℕ
least_in tasks k = (get_or tasks k no_task).least.0

-- The R+ of task k, by the rows.
abbrev pub bound_in : List TaskFigures → ℕ → ℕ
bound_in tasks k = (get_or tasks k no_task).bound.0

-- A part of the plan names tasks, not too many, whose R- and R+ are within limits.
pub record Summable (part : Bytes) (tasks : List TaskFigures) : Type 0 where
  pub few : length part ≤ most_steps
  pub steps : (i : ℕ) → i < length part → get_or part i 0 < length tasks
  pub least : (k : ℕ) → k < length tasks → least_in tasks k ≤ most_ticks
  pub bounds : (k : ℕ) → k < length tasks → bound_in tasks k ≤ most_ticks
