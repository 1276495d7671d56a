-- The library's bytes of a number are document 01's.
use Rattle.std.proofs.Common.{ℕ, zero, suc, ◌+◌, ◌-◌, ◌≤◌, ◌<◌, ◌/◌, ◌%◌, ◌^◌, ◌≡◌, refl, sym, ap, ◌∙◌, ◌∷◌, arith, drop}
use Rattle.std.proofs.Math.Nat.{pow-succ', div-div-eq-div-mul}
use Rattle.std.proofs.Math.Decide.{dec_le}
use Rattle.std.specs.Int.{byte_at, bytes_high_first}
use Rattle.paper.specs.Bytes.{bytes, difference}
use Rattle.theory.specs.Bytes.{bytes_over}

-- Byte k of the 256th part is byte k + 1.
byte_up : (k n : ℕ) → byte_at k (n / 256) ≡ byte_at (suc k) n
byte_up zero n = refl
byte_up (suc k) n = rw (div-div-eq-div-mul n 256 (256 ^ suc k), ← pow-succ' 256 (suc k))

-- The first of so many bytes.
first_byte : (k n : ℕ) → bytes (suc k) n ≡ byte_at k n ∷ bytes k n
unfolding bytes
first_byte zero n = refl
first_byte (suc k) n = rw (first_byte k (n / 256), byte_up k n)

-- The lowest bytes of a number, the highest of them first, are the number in so many bytes.
high_first : (k n : ℕ) → bytes_high_first k n ≡ bytes k n
unfolding bytes
high_first zero n = refl
high_first (suc k) n = ap (λ s. byte_at k n ∷ s) (high_first k n) ∙ sym (first_byte k n)

-- The last bytes of a number are the number in so many bytes.
pub last_bytes : (k w n : ℕ) → w ≤ k → drop (k - w) (bytes_high_first k n) ≡ bytes w n
last_bytes zero w n h = let none : w ≡ 0 = omega arith in rw none (high_first 0 n)
last_bytes (suc k) w n h =
    elim (dec_le w k) [
      | yes l ↦ let e : suc k - w ≡ suc (k - w) = omega arith in rw e (last_bytes k w n l)
      | no l ↦
          let all : w ≡ suc k = omega arith in
          let none : suc k - w ≡ 0 = omega arith in
          rw (none, all) (high_first (suc k) n)
    ]

-- The slack of two numbers of 64 bits, and what their difference leaves in 64 bits, are the same bytes.
pub slack_bytes : (a b : ℕ) → a < 2 ^ 64 → b < 2 ^ 64 → bytes 8 ((a + (2 ^ 64 - b)) % 2 ^ 64) ≡ difference 8 a b
unfolding difference
slack_bytes a b fits fits' =
    elim (dec_le b a) [
      | yes l ↦
          let left : (a + (2 ^ 64 - b)) % 2 ^ 64 ≡ a - b = omega arith in
          ap (bytes 8) left ∙ sym (bytes_over 8 (a - b)) ∙ ap (bytes 8) (omega arith)
      | no l ↦ ap (bytes 8) (omega arith)
    ]
