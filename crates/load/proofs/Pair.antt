-- The running pair: how the numerator and the denominator go on from task to task.
use Rattle.std.proofs.Common.{ℕ, zero, suc, ◌+◌, ◌*◌, ◌<◌, mul_assoc, arith, ◌≡◌, refl, ap₂, ◌∙◌}
use Rattle.std.proofs.Common.{Bool, true, false, cond, not, ◌&&◌, eqb, eq-eqb, ne_eqb}
use Rattle.std.proofs.Math.Bool.{and-true, and-false}
use Rattle.paper.specs.Words.{sum, product, count}
use Rattle.theory.specs.Numbers.Sums.{sum_ext}
use Rattle.theory.specs.Numbers.Products.{product_ext}
use Rattle.load.specs.Fraction.{denominator, numerator}

-- A factor of all that a sum adds up is a factor of the sum.
sum_times : (n : ℕ) (f : ℕ → ℕ) (q : ℕ) → sum n (λ k. f k * q) ≡ sum n f * q
unfolding sum
sum_times zero f q = omega arith
sum_times (suc n) f q = omega (arith, sum_times n f q)

-- One more is counted, or not.
pub count_next : (n : ℕ) (on : ℕ → Bool) → count (suc n) on ≡ count n on + cond (on n) 1 0
unfolding count sum
count_next n on = refl

-- The running denominator.
pub denominator_next : (n : ℕ) (on : ℕ → Bool) (P : ℕ → ℕ)
    → denominator (suc n) on P ≡ denominator n on P * cond (on n) (P n) 1
unfolding denominator product
denominator_next n on P = refl

-- To a task below n the periods of its others are those below n, and that of task n.
others_next : (n k : ℕ) (on : ℕ → Bool) (P : ℕ → ℕ) → k < n
    → denominator (suc n) (λ j. on j && not (eqb j k)) P
    ≡ denominator n (λ j. on j && not (eqb j k)) P * cond (on n) (P n) 1
others_next n k on P l =
    rw (denominator_next n (λ j. on j && not (eqb j k)) P, ne_eqb n k (omega arith), and-true (on n))

-- To task n the periods of its others are those below n.
others_last : (n : ℕ) (on : ℕ → Bool) (P : ℕ → ℕ)
    → denominator (suc n) (λ j. on j && not (eqb j n)) P ≡ denominator n on P
unfolding denominator
others_last n on P =
    rw (denominator_next n (λ j. on j && not (eqb j n)) P, eq-eqb n n refl, and-false (on n))
    (omega (
      arith,
      product_ext n (λ j. cond (on j && not (eqb j n)) (P j) 1) (λ j. cond (on j) (P j) 1)
          (λ j l. rw (ne_eqb j n (omega arith), and-true (on j))),
    ))

-- The running numerator.
pub numerator_next : (n : ℕ) (on : ℕ → Bool) (C P : ℕ → ℕ)
    → numerator (suc n) on C P ≡ numerator n on C P * cond (on n) (P n) 1 + denominator n on P * cond (on n) (C n) 0
unfolding numerator sum
numerator_next n on C P =
    ap₂ (λ x y. x + y)
    (sum_ext n _ _ (λ k l. rw (others_next n k on P l) (earlier (on k) (C k) _ _))
    ∙ sum_times n (λ k. cond (on k) (C k * denominator n (λ j. on j && not (eqb j k)) P) 0) (cond (on n) (P n) 1))
    (rw (others_last n on P) (last (on n) (C n) _))
  where
    -- What a task before n adds has the factor of task n.
    earlier : (b : Bool) (x d q : ℕ) → cond b (x * (d * q)) 0 ≡ cond b (x * d) 0 * q
    earlier true x d q = omega (arith, mul_assoc x d q)
    earlier false x d q = omega arith

    -- Task n adds its cost times the periods of those before it.
    last : (b : Bool) (x d : ℕ) → cond b (x * d) 0 ≡ d * cond b x 0
    last true x d = omega arith
    last false x d = omega arith
