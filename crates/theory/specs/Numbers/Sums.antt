-- Functions that never fall, and sums over the numbers below n: they grow with what is added.
use Rattle.std.specs.Prelude.{ℕ, zero, suc, ◌+◌, ◌*◌, ◌≤◌, ◌<◌, ◌≡◌, refl, ◌⊎◌}
use Rattle.std.proofs.Common.{ap₂, inl, inr, le_refl, eq-or-lt_of_le, add-zero, add-suc, arith}
use Rattle.std.proofs.Math.Decide.{dec_le, dec_lt}
use Rattle.paper.specs.Words.{sum}
use Rattle.theory.specs.Numbers.Least.{every_suc}

-- What never falls from one number to the next is nowhere larger at a smaller number.
pub rises : (f : ℕ → ℕ) → ((t : ℕ) → f t ≤ f (suc t)) → (s t : ℕ) → s ≤ t → f s ≤ f t
rises f more s zero h =
    let e : s ≡ 0 = omega arith in
    rw e (omega arith)
rises f more s (suc t) h =
    elim (dec_le s t) [
      | yes l ↦ omega (arith, rises f more s t l, more t)
      | no l ↦ let e : s ≡ suc t = omega arith in rw e (omega arith)
    ]

-- What is nowhere larger has no larger sum.
pub sum_mono : (n : ℕ) (f g : ℕ → ℕ) → ((k : ℕ) → k < n → f k ≤ g k) → sum n f ≤ sum n g
unfolding sum
sum_mono zero f g h = omega arith
sum_mono (suc n) f g h = omega (arith, sum_mono n f g (λ k l. h k (omega arith)), h n (omega arith))

-- What is everywhere the same has the same sum.
pub sum_ext : (n : ℕ) (f g : ℕ → ℕ) → ((k : ℕ) → k < n → f k ≡ g k) → sum n f ≡ sum n g
unfolding sum
sum_ext zero f g h = refl
sum_ext (suc n) f g h = ap₂ ◌+◌ (sum_ext n f g (λ k l. h k (omega arith))) (h n (le_refl _))

-- What is nowhere larger is everywhere the same, or has a smaller sum.
pub sum_grows : (n : ℕ) (f g : ℕ → ℕ) → ((k : ℕ) → k < n → f k ≤ g k)
    → ((k : ℕ) → k < n → f k ≡ g k) ⊎ (sum n f < sum n g)
unfolding sum
sum_grows zero f g h = inl (λ k l. omega arith)
sum_grows (suc n) f g h =
    let below : (k : ℕ) → k < n → f k ≤ g k = λ k l. h k (omega arith) in
    let last : f n ≤ g n = h n (le_refl _) in
    elim (eq-or-lt_of_le last) [
      | inl e ↦
          elim (sum_grows n f g below) [
            | inl same ↦ inl (every_suc (λ k. f k ≡ g k) n same e)
            | inr less ↦ inr (omega arith)
          ]
      | inr less ↦ inr (omega (arith, sum_mono n f g below))
    ]

-- The sum of n numbers, each at most c, is at most n * c.
pub sum_most : (n c : ℕ) (f : ℕ → ℕ) → ((k : ℕ) → k < n → f k ≤ c) → sum n f ≤ n * c
unfolding sum
sum_most zero c f h = omega arith
sum_most (suc n) c f h = omega (arith, sum_most n c f (λ k l. h k (omega arith)), h n (omega arith))

-- A sum with a part that grows, and none that falls, grows.
pub sum_more : (n : ℕ) (f g : ℕ → ℕ) → ((k : ℕ) → k < n → f k ≤ g k) → (k : ℕ) → k < n → f k < g k → sum n f < sum n g
unfolding sum
sum_more zero f g h k l grows = absurd (omega arith)
sum_more (suc n) f g h k l grows =
    elim (dec_lt k n) [
      | yes i ↦ omega (arith, h n (omega arith), sum_more n f g (λ k l. h k (omega arith)) k i grows)
      | no i ↦ let e : k ≡ n = omega arith in omega (arith, rw e at grows, sum_mono n f g (λ k l. h k (omega arith)))
    ]

-- A smaller sum has a smaller part.
pub sum_less : (n : ℕ) (f g : ℕ → ℕ) → sum n f < sum n g → (k : ℕ) × (k < n) × (f k < g k)
unfolding sum
sum_less zero f g h = absurd (omega arith)
sum_less (suc n) f g h =
    elim (dec_lt (f n) (g n)) [
      | yes l ↦ (n, omega arith, l)
      | no l ↦ let (k, i, less) = sum_less n f g (omega arith) in (k, omega arith, less)
    ]

-- A sum is at most two others where each part is at most the two parts.
pub sum_two : (n : ℕ) (f g h : ℕ → ℕ) → ((k : ℕ) → k < n → f k ≤ g k + h k) → sum n f ≤ sum n g + sum n h
unfolding sum
sum_two zero f g h parts = omega arith
sum_two (suc n) f g h parts = omega (arith, parts n (omega arith), sum_two n f g h (λ k l. parts k (omega arith)))

-- n parts more, each at most c, add at most n * c to a sum.
pub sum_reaches : (f : ℕ → ℕ) (c : ℕ) → ((k : ℕ) → f k ≤ c) → (m n : ℕ) → sum (m + n) f ≤ sum m f + n * c
unfolding sum
sum_reaches f c h m zero = rw (add-zero m) (omega arith)
sum_reaches f c h m (suc n) = rw (add-suc m n) (omega (arith, h (m + n), sum_reaches f c h m n))
