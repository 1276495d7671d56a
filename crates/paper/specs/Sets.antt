-- Sets of bounds, one R+ a task: the streams that a set gives, consistent, within limits, least.
use Rattle.std.specs.Prelude.{ℕ, zero, suc, ◌≤◌, ◌<◌}
use Rattle.paper.specs.Tables.{Source, outside, fed, Plan}
use Rattle.paper.specs.Streams.{Stream}
use Rattle.paper.specs.Windows.{Inputs, Bound, output, Within, setting}

-- A set of bounds: task k's R+ at k. Only numbers below the count of tasks matter.
abbrev pub Bounds : Type 0
Bounds = ℕ → ℕ

-- The stream of a source: its own from outside; "a fed task has its feeder's output stream".
unfoldable pub stream_of : Plan → Bounds → Inputs → Source → Stream
stream_of p R S (outside M) = M
stream_of p R S (fed j) = output (p.task j).C- (S j) (R j)

-- Every task's input stream, the chains followed back over at most m tasks (0 and 0 beyond).
unfoldable pub inputs_back : Plan → Bounds → ℕ → Inputs
inputs_back p R zero k = record { P = 0; J = 0 }
inputs_back p R (suc m) k = stream_of p R (inputs_back p R m) (p.task k).source

-- Every task's input stream under a set of bounds: a well-formed plan's chains have at most as many tasks as the plan.
unfoldable pub inputs : Plan → Bounds → Inputs
inputs p R = inputs_back p R p.tasks

-- "A set of bounds is consistent when the jitters it gives lead, by these equations, back to the same set."
abbrev pub Consistent : Plan → Bounds → Type 0
Consistent p R = (k : ℕ) → k < p.tasks → (n : ℕ) × Bound (setting p (inputs p R) k) (R k) n

-- A set of bounds is within limits.
abbrev pub WithinLimits : Plan → Bounds → Type 0
WithinLimits p R = (k : ℕ) → k < p.tasks → Within (setting p (inputs p R) k) (R k)

-- A consistent set within limits.
pub record Fits (p : Plan) (R : Bounds) : Type 0 where
  pub consistent : Consistent p R
  pub within : WithinLimits p R

-- "the least consistent set within limits: task by task no larger than any other".
pub record LeastSet (p : Plan) (R : Bounds) : Type 0 where
  pub fits : Fits p R
  pub least : (R' : Bounds) → Fits p R' → (k : ℕ) → k < p.tasks → R k ≤ R' k
