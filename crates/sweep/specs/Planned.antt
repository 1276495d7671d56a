-- The plan whose tasks rows tell, with what sweeps read beside them.
use Rattle.std.specs.Prelude.{ℕ, ◌≤◌, ◌<◌, ◌^◌, ◌≡◌, List, length, get_or}
use Rattle.paper.specs.Limits.{most_ticks}
use Rattle.paper.specs.Tables.{Plan}
use Rattle.paper.specs.Windows.{Inputs}
use Rattle.theory.specs.Plans.Sound.{Sound, Ranged}
use Rattle.stream.specs.declared.model.EventModel.{EventModel}
use Rattle.plan.specs.Tables.{task_rows}
use Rattle.plan.specs.declared.tasks.Task.{Task}
use Rattle.sweep.specs.declared.once.Figure.{Figure}
use Rattle.sweep.specs.Rows.{per_task, holding, stream_row, no_stream, bounds_of}

-- The rows are those of a plan that is sound and fits the machine.
pub record Planned (p : Plan) (tasks : List Task) : Type 0 where
  pub sound : Sound p
  pub ranged : Ranged p
  pub rows : tasks ≡ task_rows p

-- Beside them stands a set of bounds, one for each task and none above the limit,
pub record Bounding (p : Plan) (tasks : List Task) (set : List Figure) : Type 0 where
  pub planned : Planned p tasks
  pub count : length set ≡ p.tasks
  pub capped : (k : ℕ) → k < p.tasks → bounds_of set k ≤ most_ticks

-- or every task's input stream S, no period 0, none above the limit, and every jitter small.
pub record Streaming (p : Plan) (S : Inputs) (tasks : List Task) (inputs : List EventModel) : Type 0 where
  pub planned : Planned p tasks
  pub streams : inputs ≡ per_task p (stream_row S)
  pub some_period : (k : ℕ) → k < p.tasks → 1 ≤ (S k).P
  pub short_period : (k : ℕ) → k < p.tasks → (S k).P ≤ most_ticks
  pub small_jitter : (k : ℕ) → k < p.tasks → (S k).J < 2 ^ 37

-- The row of task k in a list of input streams that is being filled; past the last row there is no stream.
abbrev pub stands_at : List EventModel → ℕ → EventModel
stands_at rows k = get_or rows k (holding no_stream)

-- An input stream stands in the place of task k: the period of no stream is 0.
abbrev pub Stands : List EventModel → ℕ → Type 0
Stands rows k = 1 ≤ (stands_at rows k).period.0

-- A list of input streams is being filled: there is a place for each task's stream in S, and where one stands it is the task's.
pub record Filling (p : Plan) (S : Inputs) (rows : List EventModel) : Type 0 where
  pub count : length rows ≡ p.tasks
  pub own : (k : ℕ) → k < p.tasks → Stands rows k → stands_at rows k ≡ stream_row S k

-- The place of task k is filled: its stream stands there, and where one stood before one stands.
pub record Filled (p : Plan) (S : Inputs) (k : ℕ) (before rows : List EventModel) : Type 0 where
  pub filling : Filling p S rows
  pub stands : Stands rows k
  pub kept : (j : ℕ) → Stands before j → Stands rows j
