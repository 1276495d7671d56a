-- Laws of a number in limbs.
use Rattle.std.proofs.Common.{ℕ, zero, suc, ◌+◌, ◌*◌, ◌≤◌, ◌<◌, mul-le-mul_right, arith}
use Rattle.std.proofs.Common.{◌≡◌, refl, ap, ap₂, ◌∙◌, List, get_or, set, replicate, length-set, get_or-set_same, get_or-set_other}
use Rattle.std.proofs.Math.Decide.{ℕ_discrete, dec_le}
use Rattle.paper.specs.Limits.{most_sharing}
use Rattle.load.specs.Limbs.{base, power, value, number, Limbs, Used}

-- The number in the first n limbs depends on them alone.
pub same : (n : ℕ) (a b : List ℕ) → ((i : ℕ) → i < n → get_or a i 0 ≡ get_or b i 0) → value n a ≡ value n b
unfolding value
same zero a b h = refl
same (suc n) a b h = ap₂ (λ v x. v + x * power n) (same n a b (λ i l. h i (omega arith))) (h n (omega arith))

-- The first n limbs count to power n.
pub bounded : (n : ℕ) (a : List ℕ) → Limbs a → value n a < power n
unfolding value power
bounded zero a l = omega arith
bounded (suc n) a l = omega (arith, bounded n a l, mul-le-mul_right (power n) (l.small n))

-- Where the limbs from n on are 0, the number in the first n and more is that in the first n.
past : (n m : ℕ) (a : List ℕ) → n ≤ m → ((i : ℕ) → n ≤ i → get_or a i 0 ≡ 0) → value m a ≡ value n a
unfolding value
past n zero a h u = let e : zero ≡ n = omega arith in ap (λ k. value k a) e
past n (suc m) a h u =
    elim (dec_le n m)
    [ yes l ↦ rw (u m l) (omega (arith, past n m a l u)) | no l ↦ let e : suc m ≡ n = omega arith in ap (λ k. value k a) e ]

-- The number in all limbs is that in those that are used.
pub whole : {n : ℕ} {a : List ℕ} → n ≤ most_sharing → Used n a → number a ≡ value n a
unfolding number
whole {n} {a} h u = past n most_sharing a h u.unused

-- Limbs that use the first n use no more than the first n + 1.
pub widened : {n : ℕ} {a : List ℕ} → Used n a → Used (suc n) a
widened u = record { limbs = u.limbs; unused = λ i h. u.unused i (omega arith) }

-- In limbs that are all 0 none is used.
pub zeros : Used 0 (replicate most_sharing 0)
zeros =
    record {
      limbs = record { all = refl; small = λ i. rw (zero_at most_sharing i) (omega arith) };
      unused = λ i h. zero_at most_sharing i;
    }
  where
    -- Each of them is 0, and so is what stands past the end.
    zero_at : (n i : ℕ) → get_or {A = ℕ} (replicate n 0) i 0 ≡ 0
    zero_at zero i = refl
    zero_at (suc n) zero = refl
    zero_at (suc n) (suc i) = zero_at n i

-- Limbs stay limbs when one becomes x, below the base.
pub put : {a : List ℕ} (i x : ℕ) → Limbs a → i < most_sharing → x < base → Limbs (set a i x)
put {a} i x l h s =
    record {
      all = length-set a i x ∙ l.all;
      small = λ j.
          elim (ℕ_discrete j i)
          [ yes e ↦ rw (e, get_or-set_same a i x 0 (rw l.all h)) s | no n ↦ rw (get_or-set_other a i j x 0 n) (l.small j) ];
    }

-- A power is above 0.
pub positive : (n : ℕ) → 0 < power n
unfolding power
positive zero = omega arith
positive (suc n) = omega (arith, positive n)
