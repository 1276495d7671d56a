-- Bytes and numbers. "All numbers have the most significant byte first; only slack is signed (two's complement)."
use Rattle.std.specs.Prelude.{ℕ, zero, suc, ◌+◌, ◌-◌, ◌*◌, ◌/◌, ◌%◌, ◌^◌, ◌≤◌, ◌<◌, ◌≡◌, List, [], ◌∷◌, ◌++◌, get_or}

-- A string of bytes: numbers below 256.
abbrev pub Bytes : Type 0
Bytes = List ℕ

-- The number in the `width` bytes of s from `at` on. A byte past the end counts 0.
unfoldable pub number : Bytes → ℕ → ℕ → ℕ
number s at zero = 0
number s at (suc width) = number s at width * 256 + get_or s (at + width) 0

-- A number in `width` bytes.
unfoldable pub bytes : ℕ → ℕ → Bytes
bytes zero n = []
bytes (suc width) n = bytes width (n / 256) ++ (n % 256 ∷ [])

-- The signed number a - b in `width` bytes, two's complement.
unfoldable pub difference : ℕ → ℕ → ℕ → Bytes
difference width a b = bytes width (256 ^ width + a - b)

-- Read as signed, a number of so many bytes is a - b: as it stands where it is below half of 256 ^ width, and less by all of
-- that where it is not.
pub data Signed (width n a b : ℕ) : Type 0 where
  positive : 2 * n < 256 ^ width → n + b ≡ a → Signed width n a b
  negative : 256 ^ width ≤ 2 * n → n + b ≡ a + 256 ^ width → Signed width n a b
