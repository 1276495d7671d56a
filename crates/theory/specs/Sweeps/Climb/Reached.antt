-- Going on from sweep to sweep: what holds while every sweep changes something, and how the sweeps end.
use Rattle.std.specs.Prelude.{ℕ, zero, suc, ◌-◌, ◌*◌, ◌≤◌, ◌<◌}
use Rattle.std.proofs.Common.{sym, ◌∙◌, inl, inr, le_refl, le_trans, arith}
use Rattle.paper.specs.Words.{IsLeast, sum}
use Rattle.paper.specs.Sets.{Bounds}
use Rattle.theory.specs.Numbers.Least.{every_suc}
use Rattle.theory.specs.Numbers.Sums.{sum_grows, sum_most}
use Rattle.theory.specs.Sweeps.Climb.{
  Equations,
  Below,
  Same,
  Climbing,
  Sweep,
  Swept,
  Unchanged,
  Settles,
  Leaves,
  LeavesIn,
  Leaving,
}
use Rattle.theory.specs.Sweeps.Climb.Growth.{sweep_same, leaves_mono, start_below, swept_mono, swept_one, swept_stays}

-- After m sweeps, each of which changed something, the set is R.
pub record Reached (e : Equations) (m : ℕ) (R : Bounds) : Type 0 where
  pub swept : Swept e m R
  pub changed : (j : ℕ) → j < m → (old : Bounds) → Swept e j old → Sweep e old old → ⊥

-- Before the first sweep the set is the one to start with.
pub reached_start : (e : Equations) (R : Bounds) → Same e.tasks R e.start → Reached e zero R
reached_start e R same = record { swept = same; changed = λ j l old s w. omega arith }

-- What was reached one sweep before.
reached_before : {e : Equations} {m : ℕ} {R : Bounds} (r : Reached e (suc m) R) → Reached e m r.swept.0
reached_before r = record { swept = r.swept.1; changed = λ j l. r.changed j (omega arith) }

-- If a further sweep changes nothing, the sweeps settle.
pub reached_settles : {e : Equations} {m : ℕ} {R : Bounds} (R' : Bounds) → Reached e m R → Sweep e R R'
    → Same e.tasks R R' → Settles e (suc m) R
reached_settles {e} {m} {R} R' r w same =
    let u : Unchanged e R (suc m) = (r.swept, sweep_same e R R' w same) in
    record { unchanged = u; first = record { holds = (R, u); least = later } }
  where
    -- A sweep that changes nothing is none of those done.
    later : (j : ℕ) → (old : Bounds) × Unchanged e old j → m < j
    later zero u = absurd u.1
    later (suc j) u = let none : ¬ (j < m) = λ l. r.changed j l u.0 u.1.0 u.1.1 in omega arith

-- Where the sweeps settle, every sweep before changed something.
pub settled_reached : {e : Equations} {m : ℕ} {R : Bounds} → Settles e (suc m) R → Reached e m R
settled_reached t =
    record { swept = t.unchanged.0; changed = λ j l old s w. omega (arith, t.first.least (suc j) (old, (s, w))) }

module _ {e : Equations} {top : ℕ} (laws : Climbing e top) where
  -- If a further sweep changes something, one sweep more is done.
  pub reached_next : {m : ℕ} {R : Bounds} (R' : Bounds) → Reached e m R → Sweep e R R' → (Same e.tasks R R' → ⊥)
      → Reached e (suc m) R'
  reached_next {m} {R} R' r w differ =
      record {
        swept = after;
        changed = every_suc (λ j. (old : Bounds) → Swept e j old → Sweep e old old → ⊥) m r.changed last;
      }
    where
      -- The set after that sweep is R'.
      after : Swept e (suc m) R'
      after = (R, r.swept, w)

      -- That sweep changes something too.
      last : (old : Bounds) → Swept e m old → Sweep e old old → ⊥
      last old s w' =
          differ (λ k l. swept_one laws m R old r.swept s k l ∙ sym (swept_one laws (suc m) R' old after (old, s, w') k l))

  -- If in a further sweep tasks leave the limits, the sweeps end with the lowest such task.
  pub reached_leaves : {m : ℕ} {R : Bounds} {k : ℕ} → Reached e m R → IsLeast (Leaves e R) k → Leaving e (suc m) k
  reached_leaves {m} {R} {k} r out =
      let s = r.swept in
      record {
        first = record { holds = (k, (R, s, out.holds)); least = λ j o. swept_stays laws m R s j o.0 o.1 };
        lowest = record { holds = (R, s, out.holds); least = λ j o. out.least j (here j o) };
      }
    where
      -- A task that leaves the limits in that sweep leaves them from the set R.
      here : (j : ℕ) → LeavesIn e (suc m) j → Leaves e R j
      here j o = leaves_mono laws _ R j (swept_mono laws m m _ R (le_refl m) o.1 r.swept) o.2

  -- No more sweeps are done than the bounds have grown by.
  pub reached_few : (m : ℕ) (R : Bounds) → Reached e m R → m ≤ sum e.tasks (λ k. R k - e.start k)
  reached_few zero R r = omega arith
  reached_few (suc m) R r =
      let old = r.swept.0 in
      let s = r.swept.1 in
      let growth : Bounds → ℕ → ℕ = λ R k. R k - e.start k in
      let grows : Below e.tasks old R = swept_mono laws m (suc m) old R (omega arith) s r.swept in
      elim (sum_grows e.tasks (growth old) (growth R) (λ k l. omega (arith, grows k l))) [
        | inl g ↦
            let same : Same e.tasks old R = λ k l. omega (arith, g k l, start_below laws m old s k l, grows k l) in
            absurd (r.changed m (le_refl _) old s (sweep_same e old R r.swept.2 same))
        | inr less ↦ omega (arith, reached_few m old (reached_before r))
      ]

  -- No more sweeps are done than the bounds can grow by.
  pub reached_most : {m : ℕ} {R : Bounds} → Reached e m R → m ≤ e.tasks * top
  reached_most {m} {R} r = le_trans (reached_few m R r) (sum_most e.tasks top _ (grown m R r.swept))
    where
      -- No bound has grown by more than the top.
      grown : (m : ℕ) (R : Bounds) → Swept e m R → (k : ℕ) → k < e.tasks → R k - e.start k ≤ top
      grown zero R s k l = omega (arith, s k l)
      grown (suc m) R s k l = omega (arith, laws.bounded s.0 k (R k) l (s.2 k l))
