-- The fraction of a controller's tasks, task by task.
use Rattle.std.proofs.Common.{ℕ, suc, ◌+◌, ◌≤◌, ◌<◌, le_refl, arith, ◌≡◌, Bool, true, false, List}
use Rattle.std.proofs.Math.Decide.{le_ind}
use Rattle.paper.specs.Words.{sum, product, count}
use Rattle.load.specs.Limbs.{number}
use Rattle.load.specs.Fraction.{denominator, numerator, TaskAdded}
use Rattle.load.proofs.Pair.{count_next, denominator_next, numerator_next}

-- No fewer are counted among more.
count_grows : (k n : ℕ) (on : ℕ → Bool) → k ≤ n → count k on ≤ count n on
count_grows k n on h = le_ind (λ m. count k on ≤ count m on) (le_refl _) (λ m l r. omega (arith, count_next m on)) n h

-- What is reached when task k is due: the limbs hold the fraction of the tasks before it that are on the controller.
pub record Ran (on : ℕ → Bool) (C P : ℕ → ℕ) (num den : List ℕ) (added k : ℕ) : Type 0 where
  pub counted : added ≡ count k on
  pub num_is : number num ≡ numerator k on C P
  pub den_is : number den ≡ denominator k on P

-- Task 0 is due: the fraction is 0/1.
pub start : {on : ℕ → Bool} {C P : ℕ → ℕ} {num den : List ℕ} {added : ℕ} → added ≡ 0 → number num ≡ 0 → number den ≡ 1
    → Ran on C P num den added 0
unfolding numerator denominator sum product count
start e x y = record { counted = e; num_is = x; den_is = y }

module _ {on : ℕ → Bool} {C P : ℕ → ℕ} {num den : List ℕ} {added k : ℕ} (r : Ran on C P num den added k) where
  -- Task k is on the controller: fewer have been added than are on it.
  pub fewer : (n : ℕ) → k < n → on k ≡ true → added < count n on
  fewer n l e =
      let one : count (suc k) on ≡ count k on + 1 = rw (count_next k on, e) in
      omega (arith, r.counted, count_grows (suc k) n on l)

  -- Task k is on the controller, and has been added.
  pub here : {num-after den-after : List ℕ} {added-after : ℕ} → on k ≡ true
      → TaskAdded num den (C k) (P k) num-after den-after → added-after ≡ added + 1
      → Ran on C P num-after den-after added-after (suc k)
  here e t m =
      record {
        counted = rw (count_next k on, e) (omega (arith, r.counted));
        num_is = rw (t.num_becomes, r.num_is, r.den_is, numerator_next k on C P, e);
        den_is = rw (t.den_becomes, r.den_is, denominator_next k on P, e);
      }

  -- Task k is on another controller.
  pub elsewhere : on k ≡ false → Ran on C P num den added (suc k)
  elsewhere e =
      record {
        counted = rw (count_next k on, e) (omega (arith, r.counted));
        num_is = rw (numerator_next k on C P, e) (omega (arith, r.num_is));
        den_is = rw (denominator_next k on P, e) (omega (arith, r.den_is));
      }
