-- What the tables of a well-formed plan satisfy, in two records: what the theorems rest on, and what fits the machine.
use Rattle.std.specs.Prelude.{ℕ, suc, ◌≤◌, ◌<◌, ◌≡◌, eqb, length, get_or}
use Rattle.paper.specs.Words.{count}
use Rattle.paper.specs.Limits.{most_controllers, most_tasks, most_paths, most_sharing, most_steps, most_cost, most_ticks}
use Rattle.paper.specs.Tables.{outside, fed, Plan}
use Rattle.paper.specs.Refusals.{back, FromOutside}
use Rattle.paper.specs.Streams.{Stream}

-- What the theorems rest on.
pub record Sound (p : Plan) : Type 0 where
  -- Every job costs something,
  pub some_cost : (k : ℕ) → k < p.tasks → 1 ≤ (p.task k).C-
  -- and at least its least.
  pub costs : (k : ℕ) → k < p.tasks → (p.task k).C- ≤ (p.task k).C+
  -- Outside events have a period.
  pub some_period : (k : ℕ) (M : Stream) → k < p.tasks → (p.task k).source ≡ outside M → 1 ≤ M.P
  -- A feeder is a task of the plan.
  pub feeders : (k j : ℕ) → k < p.tasks → (p.task k).source ≡ fed j → j < p.tasks
  -- Going back from feeder to feeder reaches a task fed from outside, in fewer steps than there are tasks.
  pub chains : (k : ℕ) → k < p.tasks → (m : ℕ) × (m < p.tasks) × FromOutside (p.task (back p m k)).source
  -- Two tasks on one controller differ in priority.
  pub apart : (j k : ℕ) → j < k → k < p.tasks → (p.task j).controller ≡ (p.task k).controller
      → (p.task j).priority ≡ (p.task k).priority → ⊥
  -- A path has a task,
  pub some_step : (q : ℕ) → q < p.paths → 0 < length (p.path q)
  -- its tasks are tasks of the plan,
  pub steps : (q i : ℕ) → q < p.paths → i < length (p.path q) → get_or (p.path q) i 0 < p.tasks
  -- and each is fed by the one before it.
  pub links : (q i : ℕ) → q < p.paths → suc i < length (p.path q)
      → (p.task (get_or (p.path q) (suc i) 0)).source ≡ fed (get_or (p.path q) i 0)

-- What fits the machine.
pub record Ranged (p : Plan) : Type 0 where
  pub controllers : p.controllers ≤ most_controllers
  pub tasks : p.tasks ≤ most_tasks
  pub paths : p.paths ≤ most_paths
  pub controller : (k : ℕ) → k < p.tasks → (p.task k).controller < p.controllers
  pub priority : (k : ℕ) → k < p.tasks → (p.task k).priority < 256
  pub cost : (k : ℕ) → k < p.tasks → (p.task k).C+ ≤ most_cost
  pub period : (k : ℕ) (M : Stream) → k < p.tasks → (p.task k).source ≡ outside M → M.P ≤ most_ticks
  pub jitter : (k : ℕ) (M : Stream) → k < p.tasks → (p.task k).source ≡ outside M → M.J ≤ most_ticks
  pub sharing : (c : ℕ) → c < p.controllers → count p.tasks (λ k. eqb (p.task k).controller c) ≤ most_sharing
  pub deadline : (q : ℕ) → q < p.paths → p.deadline q < 4294967296
  pub path : (q : ℕ) → q < p.paths → length (p.path q) ≤ most_steps
