-- "The running rule": what a run is, its state tick by tick, activation, finish and response, and when a stream keeps its model.
use Rattle.std.specs.Prelude.{ℕ, zero, suc, ◌+◌, ◌≤◌, ◌<◌, ◌≡◌, Bool, cond, not, ◌&&◌, ltb, eqb}
use Rattle.paper.specs.Words.{sum, any}
use Rattle.paper.specs.Tables.{Source, outside, fed, Plan}
use Rattle.paper.specs.Streams.{Stream, d, D}
use Rattle.paper.specs.Windows.{rival}

-- A run: how many ticks it lasts; for each task fed from outside the number of its events at ticks below t; the cost of each
-- job. Jobs and events are counted from 0.
pub record Run : Type 0 where
  pub ticks : ℕ
  pub events : ℕ → ℕ → ℕ
  pub cost : ℕ → ℕ → ℕ

-- The state before a tick: how many ticks each task has been served, and how many of its jobs have finished.
pub record State : Type 0 where
  pub served : ℕ → ℕ
  pub finished : ℕ → ℕ

-- A run starts idle.
abbrev pub idle : State
idle = record { served = λ k. 0; finished = λ k. 0 }

-- The cost of the first m jobs of task k together.
abbrev pub costs : Run → ℕ → ℕ → ℕ
costs r k m = sum m (r.cost k)

-- Activations of task k up to and at tick t, by its source: "At tick t all events at t are known first"; "Job m of a fed
-- task is activated by job m of its feeder".
unfoldable pub activated_by : Run → State → ℕ → ℕ → Source → ℕ
activated_by r state t k (outside M) = r.events k (suc t)
activated_by r state t k (fed j) = state.finished j

-- How many jobs of task k have been activated up to and at tick t.
abbrev pub activated : Plan → Run → State → ℕ → ℕ → ℕ
activated p r state t k = activated_by r state t k (p.task k).source

-- Whether task k has unfinished work at tick t.
unfoldable pub waits : Plan → Run → State → ℕ → ℕ → Bool
waits p r state t k = ltb (state.served k) (costs r k (activated p r state t k))

-- "Each controller with unfinished work spends tick t on the most urgent task with any": whether that is task k.
unfoldable pub runs : Plan → Run → State → ℕ → ℕ → Bool
runs p r state t k = waits p r state t k && not (any p.tasks (λ j. rival p k j && waits p r state t j))

-- Whether a tick served to task k is the last of its earliest unfinished job: "A job that has had its cost finishes at t+1".
unfoldable pub ends : Run → State → ℕ → Bool
ends r state k = eqb (state.served k + 1) (costs r k (state.finished k + 1))

-- The state after tick t.
unfoldable pub step : Plan → Run → ℕ → State → State
step p r t state =
    record {
      served = λ k. state.served k + cond (runs p r state t k) 1 0;
      finished = λ k. state.finished k + cond (runs p r state t k && ends r state k) 1 0;
    }

-- The state before tick t.
unfoldable pub state_at : Plan → Run → ℕ → State
state_at p r zero = idle
state_at p r (suc t) = step p r t (state_at p r t)

-- The activations of task k: how many fall on ticks below t.
unfoldable pub activations : Plan → Run → ℕ → ℕ → ℕ
activations p r k zero = 0
activations p r k (suc t) = activated p r (state_at p r t) t k

-- The finishes of task k: how many fall on ticks below t. A job finished before tick t has finished at t or sooner.
unfoldable pub finishes : Plan → Run → ℕ → ℕ → ℕ
finishes p r k zero = 0
finishes p r k (suc t) = (state_at p r t).finished k

-- Event m of a stream, given by its counts, falls on tick t.
pub record At (counts : ℕ → ℕ) (m t : ℕ) : Type 0 where
  pub after : counts t ≤ m
  pub by : m < counts (suc t)

-- "Response is finish minus activation": job m of task k takes so many ticks.
pub record Response (p : Plan) (r : Run) (k m ticks : ℕ) : Type 0 where
  pub activation : ℕ
  pub activated_then : At (activations p r k) m activation
  pub finished_then : At (finishes p r k) m (activation + ticks)

-- "keeps its model when any n consecutive events lie at least the least and at most the most distance apart"; "Two events
-- not both inside the run are not judged": both fall on ticks below its length. Events m to m + n are n + 1 consecutive ones.
abbrev pub Keeps : (ticks : ℕ) → Stream → (ℕ → ℕ) → Type 0
Keeps ticks M counts =
    (m n a b : ℕ) → At counts m a → At counts (m + n) b → b < ticks → (a + d M (suc n) ≤ b) × (b ≤ a + D M (suc n))

-- Counts begin at 0 and never fall.
pub record Counts (counts : ℕ → ℕ) : Type 0 where
  pub none : counts 0 ≡ 0
  pub more : (t : ℕ) → counts t ≤ counts (suc t)

-- A run of a plan: its outside events keep their models, and its costs lie between C- and C+.
pub record RunOf (p : Plan) (r : Run) : Type 0 where
  pub counted : (k : ℕ) (M : Stream) → k < p.tasks → (p.task k).source ≡ outside M → Counts (r.events k)
  pub keeps : (k : ℕ) (M : Stream) → k < p.tasks → (p.task k).source ≡ outside M → Keeps r.ticks M (r.events k)
  pub least : (k m : ℕ) → k < p.tasks → (p.task k).C- ≤ r.cost k m
  pub most : (k m : ℕ) → k < p.tasks → r.cost k m ≤ (p.task k).C+
