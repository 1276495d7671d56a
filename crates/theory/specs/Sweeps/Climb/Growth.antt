-- The sets of the sweeps grow, and stay below every consistent set, within limits or not.
use Rattle.std.specs.Prelude.{ℕ, zero, suc, ◌≤◌, ◌<◌}
use Rattle.std.proofs.Common.{le_refl, le_antisymm, le_of_suc-le-suc, arith}
use Rattle.paper.specs.Sets.{Bounds}
use Rattle.theory.specs.Sweeps.Climb.{Equations, Below, Same, Climbing, Sweep, Swept, Leaves, LeavesIn, Leads, Consistent}

-- A sweep that gave the same set worked that set out from itself.
pub sweep_same : (e : Equations) (R R' : Bounds) → Sweep e R R' → Same e.tasks R R' → Sweep e R R
sweep_same e R R' w same k l = rw (same k l) (w k l)

module _ {e : Equations} {top : ℕ} (laws : Climbing e top) where
  -- A sweep works out the set to which the old one leads.
  pub sweep_leads : (R R' : Bounds) → Sweep e R R' → Leads e R R'
  sweep_leads R R' w k l = laws.given R k (R' k) l (w k l)

  -- From a smaller set a sweep works out a set below the one to which the other leads.
  sweep_below : (R R' new new' : Bounds) → Below e.tasks R R' → Sweep e R new → Leads e R' new'
      → Below e.tasks new new'
  sweep_below R R' new new' below w w' k l =
      laws.grows R R' k (new k) (new' k) below l (sweep_leads R new w k l) (w' k l)

  -- A task that leaves the limits from a set leaves them from every larger one.
  pub leaves_mono : (R R' : Bounds) (k : ℕ) → Below e.tasks R R' → Leaves e R k → Leaves e R' k
  leaves_mono R R' k below out =
      record {
        counted = out.counted;
        outside = λ r' s. let s = laws.smaller R R' k r' below out.counted s in out.outside s.0 s.1;
      }

  -- No set of the sweeps is below the one to start with.
  pub start_below : (m : ℕ) (R : Bounds) → Swept e m R → Below e.tasks e.start R
  start_below zero R s k l = omega (arith, s k l)
  start_below (suc m) R s k l = laws.least s.0 k (R k) l (sweep_leads s.0 R s.2 k l)

  -- The more sweeps, the larger the set.
  pub swept_mono : (m m' : ℕ) (R R' : Bounds) → m ≤ m' → Swept e m R → Swept e m' R' → Below e.tasks R R'
  swept_mono zero m' R R' h s s' k l = omega (arith, s k l, start_below m' R' s' k l)
  swept_mono (suc m) zero R R' h s s' k l = absurd (omega arith)
  swept_mono (suc m) (suc m') R R' h s s' k l =
      let before = swept_mono m m' _ _ (le_of_suc-le-suc h) s.1 s'.1 in
      sweep_below _ _ R R' before s.2 (sweep_leads _ R' s'.2) k l

  -- The set after m sweeps is one set.
  pub swept_one : (m : ℕ) (R R' : Bounds) → Swept e m R → Swept e m R' → Same e.tasks R R'
  swept_one m R R' s s' k l =
      le_antisymm (swept_mono m m R R' (le_refl m) s s' k l) (swept_mono m m R' R (le_refl m) s' s k l)

  -- A task leaves the limits only in a sweep later than those done.
  pub swept_stays : (m : ℕ) (R : Bounds) → Swept e m R → (j k : ℕ) → LeavesIn e j k → m < j
  swept_stays m R s zero k o = absurd o
  swept_stays zero R s (suc j) k o = omega arith
  swept_stays (suc m) R s (suc j) k o =
      let out : j ≤ m → Leaves e s.0 k = λ l. leaves_mono _ _ k (swept_mono j m _ _ l o.1 s.1) o.2 in
      let none : ¬ (j ≤ m) = λ l. (out l).outside (R k) (s.2 k o.2.counted) in
      omega arith

  -- The set after m sweeps is below every consistent set, within limits or not.
  pub swept_below : (m : ℕ) (R F : Bounds) → Swept e m R → Consistent e F → Below e.tasks R F
  swept_below zero R F s c k l = omega (arith, s k l, laws.least F k (F k) l (c k l))
  swept_below (suc m) R F s c k l = sweep_below _ F R F (swept_below m _ F s.1 c) s.2 c k l
