-- The comparison of two numbers in limbs.
use Rattle.std.proofs.Common.{ℕ, zero, suc, ◌*◌, ◌≤◌, ◌<◌, mul-le-mul_right, arith, ◌≡◌, refl, ap, ◌∙◌}
use Rattle.std.proofs.Common.{List, ◌∷◌, reverse, take, length, ltb, get_or, lt-ltb, ltb-true, cond, eqb, eq-eqb, ne_eqb, Ordering, tests}
use Rattle.std.proofs.Math.Seq.{take-suc}
use Rattle.std.proofs.Math.Decide.{ℕ_discrete, dec_lt}
use Rattle.std.specs.Ordering.{nat_cmp, is_lt, ordering_then}
use Rattle.std.specs.Cmp.Lexicographic.{slice_cmp}
use Rattle.std.proofs.lemmas.Bool.{ltb_from_iff}
use Rattle.std.proofs.lemmas.List.{reverse-append, take_all}
use Rattle.paper.specs.Limits.{most_sharing}
use Rattle.load.specs.Limbs.{power, value, number, Limbs}
use Rattle.load.proofs.limbs.Number.{bounded}

-- The number with the lower limb is the lower, whatever the limbs before it hold.
lower : {a b : List ℕ} (i : ℕ) → Limbs a → Limbs b → get_or a i 0 < get_or b i 0 → value (suc i) a < value (suc i) b
unfolding value
lower {a} {b} i l g h = omega (arith, bounded i a l, mul-le-mul_right (power i) h)

-- A limb that differs decides the comparison.
decided : {a b : List ℕ} (i : ℕ) → Limbs a → Limbs b → (get_or a i 0 ≡ get_or b i 0 → ⊥)
    → ltb (get_or a i 0) (get_or b i 0) ≡ ltb (value (suc i) a) (value (suc i) b)
decided {a} {b} i l g d =
    ltb_from_iff (
      (λ e. lower i l g (ltb-true _ _ e)),
      (λ h. elim (dec_lt (get_or a i 0) (get_or b i 0)) [
        | yes e ↦ lt-ltb _ _ e
        | no e ↦ let more : get_or b i 0 < get_or a i 0 = omega arith in
            absurd (omega (arith, lower i g l more))
      ]),
    )

-- A limb that does not differ leaves it to the limbs before it.
undecided : (a b : List ℕ) (i : ℕ) → get_or a i 0 ≡ get_or b i 0
    → ltb (value i a) (value i b) ≡ ltb (value (suc i) a) (value (suc i) b)
unfolding value
undecided a b i e =
    let f : get_or a i 0 * power i ≡ get_or b i 0 * power i = ap (λ x. x * power i) e in
    ltb_from_iff (
      (λ h. let m : value i a < value i b = ltb-true _ _ h in omega arith),
      (λ h. let m : value i a < value i b = omega arith in lt-ltb _ _ m),
    )

-- Two numbers decide, and where they are equal what comes after them does.
first : (x y : ℕ) (o : Ordering) → is_lt (ordering_then (nat_cmp x y) o) ≡ cond (eqb x y) (is_lt o) (ltb x y)
first x y o = grind (arith, tests)

-- The limbs from limb i down are limb i, and then those below it.
downward : (a : List ℕ) (i : ℕ) → i < length a → reverse (take (suc i) a) ≡ get_or a i 0 ∷ reverse (take i a)
downward a i l = rw (take-suc a i 0 l, reverse-append)

-- The first i limbs, compared from the highest down, say which number in them is the lower.
compared : {a b : List ℕ} (i : ℕ) → Limbs a → Limbs b → i ≤ most_sharing
    → is_lt (slice_cmp nat_cmp (reverse (take i a)) (reverse (take i b))) ≡ ltb (value i a) (value i b)
unfolding value
compared zero l g h = refl
compared {a} {b} (suc i) l g h =
    rw (
      downward a i (rw l.all h),
      downward b i (rw g.all h),
      first (get_or a i 0) (get_or b i 0) (slice_cmp nat_cmp (reverse (take i a)) (reverse (take i b))),
    )
    (elim (ℕ_discrete (get_or a i 0) (get_or b i 0)) [
      | yes e ↦ rw (eq-eqb _ _ e) (compared i l g (omega arith) ∙ undecided a b i e)
      | no d ↦ rw (ne_eqb _ _ d) (decided i l g d)
    ])

-- All limbs, compared from the highest down, say which number is the lower.
pub from_the_top : {a b : List ℕ} → Limbs a → Limbs b
    → is_lt (slice_cmp nat_cmp (reverse a) (reverse b)) ≡ ltb (number a) (number b)
unfolding number
from_the_top {a} {b} l g =
    rw (take_all most_sharing a (omega (arith, l.all)), take_all most_sharing b (omega (arith, g.all))) at
    (compared {a = a} {b = b} most_sharing l g (omega arith))
