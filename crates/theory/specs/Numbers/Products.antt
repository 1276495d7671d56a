-- Products over the numbers below n.
use Rattle.std.specs.Prelude.{ℕ, zero, suc, ◌*◌, ◌<◌, ◌≡◌, refl, cond, not, eqb}
use Rattle.std.proofs.Common.{ap, ap₂, mul-one, mul_right_comm, arith, eq-eqb, ne_eqb}
use Rattle.std.proofs.Math.Decide.{dec_lt}
use Rattle.paper.specs.Words.{product}

-- What is everywhere the same has the same product.
pub product_ext : (n : ℕ) (f g : ℕ → ℕ) → ((k : ℕ) → k < n → f k ≡ g k) → product n f ≡ product n g
unfolding product
product_ext zero f g h = refl
product_ext (suc n) f g h = ap₂ ◌*◌ (product_ext n f g (λ k l. h k (omega arith))) (h n (omega arith))

-- A product is that of all factors but one, times that one.
pub product_without : (n k : ℕ) (f : ℕ → ℕ) → k < n → product n (λ j. cond (not (eqb j k)) (f j) 1) * f k ≡ product n f
unfolding product
product_without zero k f h = absurd (omega arith)
product_without (suc n) k f h =
    elim (dec_lt k n) [
      | yes l ↦ rw (ne_eqb n k (omega arith), mul_right_comm _ (f n) (f k)) (ap (λ x. x * f n) (product_without n k f l))
      | no l ↦
          let e : n ≡ k = omega arith in
          let others = product_ext k (λ j. cond (not (eqb j k)) (f j) 1) f (λ j below. rw (ne_eqb j k (omega arith))) in
          rw (eq-eqb n k e, e, others, mul-one)
    ]
