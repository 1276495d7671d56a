-- A number's decimal digits, as the library puts them, are those of document 01's line.
use Rattle.std.proofs.Common.{ℕ, zero, suc, ◌-◌, ◌/◌, ◌%◌, ◌^◌, ◌≤◌, ◌<◌, ◌≡◌, pow-suc, arith, lt-ltb, le-ltb}
use Rattle.std.proofs.Math.Nat.{pow-le-pow_right}
use Rattle.std.proofs.Math.Decide.{dec_le}
use Rattle.std.proofs.Math.Numerals.{unary_clauses}
use Rattle.io.specs.Digits.{hex_digit_ascii, last_digits, IsDigitCount}
use Rattle.paper.specs.Line.{digit_of, decimal_in, decimal_of}

-- A decimal digit is the same character in both.
same_digit : (d : ℕ) → d < 10 → hex_digit_ascii d ≡ digit_of d
unfolding digit_of
same_digit d h = rw (lt-ltb d 10 h)

-- A power of ten is above its exponent.
below_power : (k : ℕ) → k < 10 ^ k
below_power zero = omega arith
below_power (suc k) = rw (pow-suc 10 k) (omega (arith, below_power k))

-- The fewest digits that hold a number, one or more, are its decimal.
fewest_in : (k most n : ℕ) → k < most → n < 10 ^ suc k → (1 ≤ k → 10 ^ k ≤ n)
    → last_digits 10 (suc k) n ≡ decimal_in most n
unfolding decimal_in
fewest_in zero zero n h below above = elim h [ ]
fewest_in (suc k) zero n h below above = elim h [ ]
fewest_in zero (suc most) n h below above = rw (lt-ltb n 10 (omega arith), same_digit (n % 10) (omega arith))
fewest_in (suc k) (suc most) n h below above =
    let low = rw (pow-suc 10 k) at (above (omega arith)) in
    let high = rw (pow-suc 10 (suc k)) at below in
    rw (
      le-ltb n 10 (omega (arith, below_power k)),
      same_digit (n % 10) (omega arith),
      fewest_in k most (n / 10) (omega arith) (omega arith) (λ l. omega arith),
    )

-- The digits that the library puts are the number's decimal.
pub same_decimal : (n k : ℕ) → IsDigitCount 10 1 n k → last_digits 10 k n ≡ decimal_of n
unfolding decimal_of
same_decimal n zero (some, below, above) = absurd (omega arith)
same_decimal n (suc k) (some, below, above) =
    let low : 1 ≤ k → 10 ^ k ≤ n = λ l. simp unary_clauses at (above (omega arith)) in
    let short : k ≤ n = elim (dec_le 1 k) [ yes l ↦ omega (arith, low l, below_power k) | no l ↦ omega arith ] in
    fewest_in k (suc n) n (omega arith) below low

-- A number of 64 bits has at most 20 digits.
pub few_digits : (n k : ℕ) → n < 2 ^ 64 → IsDigitCount 10 1 n k → k ≤ 20
few_digits n k h (some, below, above) =
    elim (dec_le k 20) [
      | yes l ↦ l
      | no l ↦
          let power : 10 ^ 20 ≤ 10 ^ (k - 1) = pow-le-pow_right (omega arith) {i = 20} (omega arith) in
          absurd (omega (arith, above (omega arith), power))
    ]
