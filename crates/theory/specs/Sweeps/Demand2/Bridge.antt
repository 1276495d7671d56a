-- A plan's sweeps are those of `Climb`, over the equations that the plan gives.
use Rattle.std.specs.Prelude.{ℕ, zero, suc, ◌↔◌}
use Rattle.std.proofs.Math.Logic.Iff as Iff
use Rattle.paper.specs.Tables.{Plan}
use Rattle.paper.specs.Sets.{Bounds, inputs, Fits, LeastSet}
use Rattle.paper.specs.Windows.{Bound, Bounded, setting}
use Rattle.paper.specs.Sweeps.{Swept, Unchanged, Settles, Leaves, LeavesIn, Leaving}
use Rattle.theory.specs.Numbers.Least.{least_same}
use Rattle.theory.specs.Sweeps.Climb

-- Worked out from the set R, task k's new bound is r, limits aside;
abbrev pub Gives : Plan → Bounds → ℕ → ℕ → Type 0
Gives p R k r = (n : ℕ) × Bound (setting p (inputs p R) k) r n

-- it is r, and all is within limits.
abbrev pub Step : Plan → Bounds → ℕ → ℕ → Type 0
Step p R k r = (n : ℕ) × Bounded (setting p (inputs p R) k) r n

-- What a plan's sweeps work with.
abbrev pub equations : Plan → Climb.Equations
equations p = record { tasks = p.tasks; start = λ k. (p.task k).C+; Gives = Gives p; Step = Step p }

-- Of two properties that the same things have, something has one exactly when something has the other.
pub some : {A : Type 0} {P Q : A → Type 0} → ((a : A) → P a ↔ Q a) → ((a : A) × P a) ↔ ((a : A) × Q a)
some same = (λ s. (s.0, (same s.0).0 s.1), λ s. (s.0, (same s.0).1 s.1))

-- The same of two things at once.
pub some_two : {A B : Type 0} {P Q : A → B → Type 0} → ((a : A) (b : B) → P a b ↔ Q a b)
    → ((a : A) × (b : B) × P a b) ↔ ((a : A) × (b : B) × Q a b)
some_two same = (λ s. (s.0, s.1, (same s.0 s.1).0 s.2), λ s. (s.0, s.1, (same s.0 s.1).1 s.2))

module _ (p : Plan) where
  -- By the plan and by its equations, the sets after m sweeps are the same,
  pub swept : (m : ℕ) (R : Bounds) → Swept p m R ↔ Climb.Swept (equations p) m R
  swept zero R = Iff.rfl
  swept (suc m) R =
      (λ s. (s.0, (swept m s.0).0 s.1, s.2), λ s. (s.0, (swept m s.0).1 s.1, s.2))

  -- the sweeps that changed nothing are the same,
  pub unchanged : (m : ℕ) (R : Bounds) → Unchanged p R m ↔ Climb.Unchanged (equations p) R m
  unchanged zero R = Iff.rfl
  unchanged (suc m) R = Iff.and (swept m R) Iff.rfl

  -- and the sweeps settle in the same sets at the same numbers;
  pub settles : (m : ℕ) (R : Bounds) → Settles p m R ↔ Climb.Settles (equations p) m R
  settles m R =
      let first = least_same (λ m. some (unchanged m)) in (
        λ t. record { unchanged = (unchanged m R).0 t.unchanged; first = first.0 t.first },
        λ t. record { unchanged = (unchanged m R).1 t.unchanged; first = first.1 t.first },
      )

  -- the tasks that leave the limits from a set are the same,
  pub leaves : (R : Bounds) (k : ℕ) → Leaves p (inputs p R) k ↔ Climb.Leaves (equations p) R k
  leaves R k = (
    λ o. record { counted = o.counted; outside = λ r s. o.outside r s.0 s.1 },
    λ o. record { counted = o.counted; outside = λ r n b. o.outside r (n, b) },
  )

  -- those that leave them in a sweep are the same,
  pub leaves_in : (m k : ℕ) → LeavesIn p m k ↔ Climb.LeavesIn (equations p) m k
  leaves_in zero k = Iff.rfl
  leaves_in (suc m) k = (
    λ o. (o.0, (swept m o.0).0 o.1, (leaves o.0 k).0 o.2),
    λ o. (o.0, (swept m o.0).1 o.1, (leaves o.0 k).1 o.2),
  )

  -- and so are the first such sweep and its lowest such task;
  pub leaving : (m k : ℕ) → Leaving p m k ↔ Climb.Leaving (equations p) m k
  leaving m k =
      let first = least_same (λ m. some (leaves_in m)) in
      let lowest = least_same (leaves_in m) in (
        λ o. record { first = first.0 o.first; lowest = lowest.0 o.lowest },
        λ o. record { first = first.1 o.first; lowest = lowest.1 o.lowest },
      )

  -- the consistent sets within limits are the same,
  pub fits : (R : Bounds) → Fits p R ↔ Climb.Fits (equations p) R
  fits R = (
    λ f k l. ((f.consistent k l).0, record { bound = (f.consistent k l).1; within = f.within k l }),
    λ f. record { consistent = λ k l. ((f k l).0, (f k l).1.bound); within = λ k l. (f k l).1.within },
  )

  -- and so are the least of them.
  pub least_set : (R : Bounds) → LeastSet p R ↔ Climb.LeastSet (equations p) R
  least_set R = (
    λ t. record { fits = (fits R).0 t.fits; least = λ F f. t.least F ((fits F).1 f) },
    λ t. record { fits = (fits R).1 t.fits; least = λ F f. t.least F ((fits F).0 f) },
  )
