-- Sweeps: "Start with R+ = C+ for all. A sweep works out every R+ anew from the previous set."
use Rattle.std.specs.Prelude.{ℕ, zero, suc, ◌<◌, ◌≡◌}
use Rattle.paper.specs.Words.{IsLeast}
use Rattle.paper.specs.Tables.{Plan}
use Rattle.paper.specs.Windows.{Inputs, Bounded, setting}
use Rattle.paper.specs.Sets.{Bounds, inputs}

-- A sweep works out the set `new` from the set `old`, and no task leaves the limits.
abbrev pub Sweep : Plan → Bounds → Bounds → Type 0
Sweep p old new = (k : ℕ) → k < p.tasks → (n : ℕ) × Bounded (setting p (inputs p old) k) (new k) n

-- The set after m sweeps.
abbrev pub Swept : Plan → ℕ → Bounds → Type 0
Swept p zero R = (k : ℕ) → k < p.tasks → R k ≡ (p.task k).C+
Swept p (suc m) R = (old : Bounds) × Swept p m old × Sweep p old R

-- Sweep number m, counted from 1, changed nothing in the set R.
abbrev pub Unchanged : Plan → Bounds → ℕ → Type 0
Unchanged p R zero = ⊥
Unchanged p R (suc m) = Swept p m R × Sweep p R R

-- The sweeps settle in the set R: sweep number m is "the first sweep that changed nothing".
pub record Settles (p : Plan) (m : ℕ) (R : Bounds) : Type 0 where
  pub unchanged : Unchanged p R m
  pub first : IsLeast (λ m. (R : Bounds) × Unchanged p R m) m

-- Task k leaves the limits when its bound is worked out from the input streams: its input jitter, a window, its jobs, or
-- input jitter + new R+ - R-.
pub record Leaves (p : Plan) (S : Inputs) (k : ℕ) : Type 0 where
  pub counted : k < p.tasks
  pub outside : (R n : ℕ) → Bounded (setting p S k) R n → ⊥

-- Task k leaves the limits in sweep number m, counted from 1.
abbrev pub LeavesIn : Plan → ℕ → ℕ → Type 0
LeavesIn p zero k = ⊥
LeavesIn p (suc m) k = (old : Bounds) × Swept p m old × Leaves p (inputs p old) k

-- "the first sweep in which some task leaves the limits; the place is the lowest such task".
pub record Leaving (p : Plan) (m k : ℕ) : Type 0 where
  pub first : IsLeast (λ m. (k : ℕ) × LeavesIn p m k) m
  pub lowest : IsLeast (LeavesIn p m) k
