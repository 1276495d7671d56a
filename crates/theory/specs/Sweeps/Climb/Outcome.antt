-- How the sweeps end: in the least consistent set within limits, or leaving the limits where there is none.
use Rattle.std.specs.Prelude.{ℕ, zero, suc, ◌+◌, ◌-◌, ◌*◌, ◌≤◌, ◌<◌, ◌≡◌, refl, ◌⊎◌, ◌↔◌}
use Rattle.std.proofs.Common.{sym, subst, inl, inr, le_antisymm, arith}
use Rattle.std.proofs.Math.Decide.{dec_lt}
use Rattle.paper.specs.Words.{IsLeast, sum}
use Rattle.paper.specs.Sets.{Bounds}
use Rattle.theory.specs.Numbers.Least.{least_one, search_least}
use Rattle.theory.specs.Numbers.Sums.{sum_ext, sum_grows}
use Rattle.theory.specs.Sweeps.Climb.{
  Equations,
  Below,
  Same,
  Climbing,
  Sweep,
  Settles,
  Leaves,
  LeavesIn,
  Leaving,
  Consistent,
  Fits,
  LeastSet,
}
use Rattle.theory.specs.Sweeps.Climb.Growth.{sweep_leads, leaves_mono, swept_mono, swept_below}
use Rattle.theory.specs.Sweeps.Climb.Reached.{
  Reached,
  reached_start,
  reached_settles,
  reached_next,
  reached_leaves,
  reached_few,
  reached_most,
  settled_reached,
}

module _ {e : Equations} {top : ℕ} (laws : Climbing e top) where
  -- The set in which the sweeps settle is below every consistent set, within limits or not.
  pub least_of_all : {m : ℕ} {R : Bounds} → Settles e m R → (F : Bounds) → Consistent e F → Below e.tasks R F
  least_of_all {m = zero} t F c = absurd t.unchanged
  least_of_all {m = suc m} {R} t F c = swept_below laws m R F t.unchanged.0 c

  -- The sweeps settle in the least consistent set within limits.
  pub settled_least : {m : ℕ} {R : Bounds} → Settles e m R → LeastSet e R
  settled_least {m = zero} t = absurd t.unchanged
  settled_least {m = suc m} t =
      record { fits = t.unchanged.1; least = λ F f. least_of_all t F (sweep_leads laws F F f) }

  -- Where there is a consistent set within limits, no task ever leaves them.
  pub fits_stays : (F : Bounds) → Fits e F → (m k : ℕ) → LeavesIn e m k → ⊥
  fits_stays F f zero k o = o
  fits_stays F f (suc m) k o =
      let below = swept_below laws m o.0 F o.1 (sweep_leads laws F F f) in
      (leaves_mono laws o.0 F k below o.2).outside (F k) (f k o.2.counted)

  -- The sweeps never both settle and leave the limits.
  pub never_both : {m m' k : ℕ} {R : Bounds} → Settles e m R → Leaving e m' k → ⊥
  never_both {m' = m'} {k = k} {R = R} t o = fits_stays R (settled_least t).fits m' k o.lowest.holds

  -- From every set either a sweep works out another, or a lowest task leaves the limits.
  pub sweeps_or_leaves : (R : Bounds) → ((R' : Bounds) × Sweep e R R') ⊎ ((k : ℕ) × IsLeast (Leaves e R) k)
  sweeps_or_leaves R =
      elim (search_least leaves e.tasks) [
        | inl f ↦ inr (f.0, f.1)
        | inr none ↦ inl (λ k. (new none k).0, λ k l. (new none k).1 l)
      ]
    where
      -- A task has a new bound, if it is counted, or leaves the limits.
      each : (k : ℕ) → ((r : ℕ) × (k < e.tasks → e.Step R k r)) ⊎ Leaves e R k
      each k =
          elim (dec_lt k e.tasks) [
            | yes l ↦
                elim (laws.decided R k l) [
                  | inl s ↦ inl (s.0, λ h. s.1)
                  | inr o ↦ inr (record { counted = l; outside = o })
                ]
            | no l ↦ inl (0, λ h. absurd (l h))
          ]

      -- Whether a task leaves the limits.
      leaves : (k : ℕ) → Dec (Leaves e R k)
      leaves k = elim (each k) [ inl s ↦ no (λ o. o.outside s.0 (s.1 o.counted)) | inr o ↦ yes o ]

      -- Where no task leaves the limits, each has a new bound.
      new : ((k : ℕ) → k < e.tasks → Leaves e R k → ⊥) → (k : ℕ) → (r : ℕ) × (k < e.tasks → e.Step R k r)
      new none k = elim (each k) [ inl s ↦ s | inr o ↦ absurd (none k o.counted o) ]

  -- The sweeps end: from what m of them have reached, n more are enough where the bounds can grow by less than n + m.
  ends : (n m : ℕ) (R : Bounds) → e.tasks * top < n + m → Reached e m R
      → ((m : ℕ) × (R : Bounds) × Settles e m R) ⊎ ((m : ℕ) × (k : ℕ) × Leaving e m k)
  ends zero m R h r = absurd (omega (arith, reached_most laws r))
  ends (suc n) m R h r =
      elim (sweeps_or_leaves R) [
        | inl s ↦
            let R' = s.0 in
            let grows = swept_mono laws m (suc m) R R' (omega arith) r.swept (R, r.swept, s.1) in
            elim (sum_grows e.tasks R R' grows) [
              | inl same ↦ inl (suc m, R, reached_settles R' r s.1 same)
              | inr less ↦
                  let differ : Same e.tasks R R' → ⊥ = λ same. omega (arith, sum_ext e.tasks R R' same) in
                  ends n (suc m) R' (omega arith) (reached_next laws R' r s.1 differ)
            ]
        | inr o ↦ inr (suc m, o.0, reached_leaves laws r o.1)
      ]

  -- The sweeps settle, or leave the limits.
  pub decided : ((m : ℕ) × (R : Bounds) × Settles e m R) ⊎ ((m : ℕ) × (k : ℕ) × Leaving e m k)
  decided = ends (suc (e.tasks * top)) zero e.start (omega arith) (reached_start e e.start (λ k l. refl))

  -- The sweeps settle exactly when some consistent set lies within the limits.
  pub some_bound : ((m : ℕ) × (R : Bounds) × Settles e m R) ↔ ((F : Bounds) × Fits e F)
  some_bound = (
    λ t. (t.1, (settled_least t.2).fits),
    λ f. elim decided [ inl t ↦ t | inr o ↦ absurd (fits_stays f.0 f.1 o.0 o.1 o.2.lowest.holds) ],
  )

  -- The sweeps leave the limits exactly when no consistent set lies within them.
  pub no_bound : ((m : ℕ) × (k : ℕ) × Leaving e m k) ↔ ((F : Bounds) → Fits e F → ⊥)
  no_bound = (
    λ o F f. fits_stays F f o.0 o.1 o.2.lowest.holds,
    λ none. elim decided [ inl t ↦ absurd (none t.1 (settled_least t.2).fits) | inr o ↦ o ],
  )

  -- The sweep number and the set in which the sweeps settle are one number and one set.
  pub settles_one : {m m' : ℕ} {R R' : Bounds} → Settles e m R → Settles e m' R' → (m ≡ m') × Same e.tasks R R'
  settles_one {R = R} {R' = R'} t t' =
      let l = settled_least t in
      let l' = settled_least t' in
      (least_one t.first t'.first, λ k h. le_antisymm (l.least R' l'.fits k h) (l'.least R l.fits k h))

  -- The sweep number is at most 1 more than the bounds have grown by.
  pub sweeps_few : {m : ℕ} {R : Bounds} → Settles e m R → m ≤ 1 + sum e.tasks (λ k. R k - e.start k)
  sweeps_few {m = zero} t = omega arith
  sweeps_few {m = suc m} {R} t = omega (arith, reached_few laws m R (settled_reached t))

-- The first sweep in which a task leaves the limits, and the lowest such task, are one number each.
pub leaving_one : {e : Equations} {m m' k k' : ℕ} → Leaving e m k → Leaving e m' k' → (m ≡ m') × (k ≡ k')
leaving_one {e} {k' = k'} o o' =
    let same = least_one o.first o'.first in
    (same, least_one o.lowest (subst (λ m. IsLeast (LeavesIn e m) k') (sym same) o'.lowest))
