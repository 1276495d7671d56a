-- What one sweep works out.
use Rattle.std.specs.Prelude.{ℕ, ◌<◌, ◌≡◌, List, length, get_or, Option, Some, None, Result, Ok, Err}
use Rattle.paper.specs.Words.{IsLeast}
use Rattle.paper.specs.Tables.{Plan}
use Rattle.paper.specs.Windows.{Inputs, Bounded, setting}
use Rattle.paper.specs.Sweeps.{Leaves}
use Rattle.stream.specs.Model.{model_of}
use Rattle.sweep.specs.declared.once.Figure.{Figure}
use Rattle.sweep.specs.declared.once.Left.{Left}
use Rattle.sweep.specs.Rows.{no_figure}

-- The figures of task k under the input streams S: its bound within limits, its input stream, the jobs looked at.
pub record Figured (p : Plan) (S : Inputs) (k : ℕ) (f : Figure) : Type 0 where
  pub bounded : Bounded (setting p S k) f.bound.0 f.jobs.0
  pub input : model_of f.input ≡ S k

-- Of the working out of a task's figures: there they are, or the task leaves the limits.
abbrev pub Finds : Plan → Inputs → ℕ → Option Figure → Type 0
Finds p S k (Some f) = Figured p S k f
Finds p S k None = Leaves p S k

-- The figures of the first n tasks are worked out.
pub record Upto (p : Plan) (S : Inputs) (n : ℕ) (figures : List Figure) : Type 0 where
  pub count : length figures ≡ n
  pub each : (k : ℕ) → k < n → Figured p S k (get_or figures k no_figure)

-- Of sweep number n and the figures that it leaves: they are those of all tasks, or this is the lowest task that leaves the limits in it.
abbrev pub Works : Plan → Inputs → ℕ → Result (Unit {0}) Left → List Figure → Type 0
Works p S n (Ok u) figures = Upto p S p.tasks figures
Works p S n (Err left) figures = IsLeast (Leaves p S) left.task.0 × (left.sweep ≡ n)
