-- Demand 3: what is claimed of a plan's runs, and what it means that a run keeps it. "Demand 3 speaks of" the running rule.
use Rattle.std.specs.Prelude.{ℕ, suc, ◌+◌, ◌-◌, ◌≤◌, ◌<◌, List, length, get_or}
use Rattle.paper.specs.Bytes.{Bytes}
use Rattle.paper.specs.Tables.{Plan}
use Rattle.paper.specs.Streams.{Stream}
use Rattle.paper.specs.Load.{period}
use Rattle.paper.specs.Running.{Run, activations, finishes, At, Response, Keeps}
use Rattle.paper.specs.Places.{R-_in, R+_in, input_in, output_in, best_in, worst_in}

-- The first task of a path.
abbrev pub first : List ℕ → ℕ
first path = get_or path 0 0

-- The last task of a path.
abbrev pub last : List ℕ → ℕ
last path = get_or path (length path - 1) 0

-- What is claimed: R-, R+, input and output stream of each task; best and worst time of each path.
pub record Claims : Type 0 where
  pub R- : ℕ → ℕ
  pub R+ : ℕ → ℕ
  pub input : ℕ → Stream
  pub output : ℕ → Stream
  pub best : ℕ → ℕ
  pub worst : ℕ → ℕ

-- What the bytes of a plan's report claim: the numbers that stand there, each jitter with the task's period.
abbrev pub claims_in : Plan → Bytes → Claims
claims_in p out =
    record {
      R- = R-_in out;
      R+ = R+_in out;
      input = λ k. record { P = period p k; J = input_in out k };
      output = λ k. record { P = period p k; J = output_in out k };
      best = best_in out p.tasks;
      worst = worst_in out p.tasks;
    }

-- A run of a plan keeps what is claimed.
pub record Kept (p : Plan) (c : Claims) (r : Run) : Type 0 where
  -- "A job is certainly finished once R+ ticks have passed since its activation, if the run lasts that long."
  pub in_time : (k m a : ℕ) → k < p.tasks → At (activations p r k) m a → a + c.R+ k ≤ r.ticks
      → m < finishes p r k (suc (a + c.R+ k))
  -- A response is at least R-, and at most R+ if it ends inside the run.
  pub responses : (k m ticks : ℕ) → k < p.tasks → (response : Response p r k m ticks)
      → (c.R- k ≤ ticks) × (response.activation + ticks ≤ r.ticks → ticks ≤ c.R+ k)
  -- Every task's input stream keeps its model,
  pub inputs_keep : (k : ℕ) → k < p.tasks → Keeps r.ticks (c.input k) (activations p r k)
  -- and so does every task's output stream, also one that feeds nobody.
  pub outputs_keep : (k : ℕ) → k < p.tasks → Keeps r.ticks (c.output k) (finishes p r k)
  -- A job is certainly finished on the last task of a path once the worst time along it has passed since its activation on the
  -- first, if the run lasts that long.
  pub path_in_time : (q m a : ℕ) → q < p.paths → At (activations p r (first (p.path q))) m a → a + c.worst q ≤ r.ticks
      → m < finishes p r (last (p.path q)) (suc (a + c.worst q))
  -- From activation on the first task to finish on the last a job takes at least the best time along the path, and at most the
  -- worst if it ends inside the run.
  pub path_responses : (q m a ticks : ℕ) → q < p.paths → At (activations p r (first (p.path q))) m a
      → At (finishes p r (last (p.path q))) m (a + ticks)
      → (c.best q ≤ ticks) × (a + ticks ≤ r.ticks → ticks ≤ c.worst q)
