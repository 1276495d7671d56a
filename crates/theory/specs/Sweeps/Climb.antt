-- Demand 2 over any equations: the sweeps of document 01, whatever works out one task's new bound.
pub mod Growth
pub mod Reached
pub mod Outcome
use Rattle.std.specs.Prelude.{ℕ, zero, suc, ◌≤◌, ◌<◌, ◌≡◌, ◌⊎◌}
use Rattle.paper.specs.Words.{IsLeast}
use Rattle.paper.specs.Sets.{Bounds}

-- What sweeps work with: how many tasks there are, the set to start with, and what works out a new bound.
pub record Equations : Type 1 where
  pub tasks : ℕ
  pub start : Bounds
  -- Worked out from a set, a task's new bound is that number, limits aside;
  pub Gives : (from : Bounds) (task bound : ℕ) → Type 0
  -- it is that number, and all is within limits.
  pub Step : (from : Bounds) (task bound : ℕ) → Type 0

-- Task by task, a set is no larger than another.
abbrev pub Below : ℕ → Bounds → Bounds → Type 0
Below tasks R R' = (k : ℕ) → k < tasks → R k ≤ R' k

-- Task by task, two sets are the same.
abbrev pub Same : ℕ → Bounds → Bounds → Type 0
Same tasks R R' = (k : ℕ) → k < tasks → R k ≡ R' k

-- What the sweeps rest on, with bounds of at most `top`.
pub record Climbing (e : Equations) (top : ℕ) : Type 0 where
  -- A bound within limits is the bound limits aside.
  pub given : (R : Bounds) (k r : ℕ) → k < e.tasks → e.Step R k r → e.Gives R k r
  -- From a set no larger the new bound is no larger, limits aside,
  pub grows : (R R' : Bounds) (k r r' : ℕ) → Below e.tasks R R' → k < e.tasks → e.Gives R k r → e.Gives R' k r'
      → r ≤ r'
  -- and there is one within limits where there is from the other.
  pub smaller : (R R' : Bounds) (k r' : ℕ) → Below e.tasks R R' → k < e.tasks → e.Step R' k r' → (r : ℕ) × e.Step R k r
  -- No bound is below the one to start with, limits aside,
  pub least : (R : Bounds) (k r : ℕ) → k < e.tasks → e.Gives R k r → e.start k ≤ r
  -- and none within limits is above the top.
  pub bounded : (R : Bounds) (k r : ℕ) → k < e.tasks → e.Step R k r → r ≤ top
  -- There is a new bound within limits, or there is none.
  pub decided : (R : Bounds) (k : ℕ) → k < e.tasks → ((r : ℕ) × e.Step R k r) ⊎ ((r : ℕ) → e.Step R k r → ⊥)

-- A sweep works out the set `new` from the set `old`, and no task leaves the limits.
abbrev pub Sweep : Equations → Bounds → Bounds → Type 0
Sweep e old new = (k : ℕ) → k < e.tasks → e.Step old k (new k)

-- The set after m sweeps.
abbrev pub Swept : Equations → ℕ → Bounds → Type 0
Swept e zero R = Same e.tasks R e.start
Swept e (suc m) R = (old : Bounds) × Swept e m old × Sweep e old R

-- Sweep number m, counted from 1, changed nothing in the set R.
abbrev pub Unchanged : Equations → Bounds → ℕ → Type 0
Unchanged e R zero = ⊥
Unchanged e R (suc m) = Swept e m R × Sweep e R R

-- The sweeps settle in the set R: sweep number m is the first that changed nothing.
pub record Settles (e : Equations) (m : ℕ) (R : Bounds) : Type 0 where
  pub unchanged : Unchanged e R m
  pub first : IsLeast (λ m. (R : Bounds) × Unchanged e R m) m

-- Task k leaves the limits when its bound is worked out from the set R.
pub record Leaves (e : Equations) (R : Bounds) (k : ℕ) : Type 0 where
  pub counted : k < e.tasks
  pub outside : (r : ℕ) → e.Step R k r → ⊥

-- Task k leaves the limits in sweep number m, counted from 1.
abbrev pub LeavesIn : Equations → ℕ → ℕ → Type 0
LeavesIn e zero k = ⊥
LeavesIn e (suc m) k = (old : Bounds) × Swept e m old × Leaves e old k

-- Sweep number m is the first in which some task leaves the limits, and k is the lowest such task.
pub record Leaving (e : Equations) (m k : ℕ) : Type 0 where
  pub first : IsLeast (λ m. (k : ℕ) × LeavesIn e m k) m
  pub lowest : IsLeast (LeavesIn e m) k

-- A set leads, by the equations, to another, limits aside.
abbrev pub Leads : Equations → Bounds → Bounds → Type 0
Leads e R R' = (k : ℕ) → k < e.tasks → e.Gives R k (R' k)

-- A consistent set, within limits or not: it leads back to itself.
abbrev pub Consistent : Equations → Bounds → Type 0
Consistent e R = Leads e R R

-- A consistent set within limits: a sweep works it out from itself.
abbrev pub Fits : Equations → Bounds → Type 0
Fits e R = Sweep e R R

-- The least consistent set within limits: task by task no larger than any other.
pub record LeastSet (e : Equations) (R : Bounds) : Type 0 where
  pub fits : Fits e R
  pub least : (R' : Bounds) → Fits e R' → Below e.tasks R R'
