-- Words that every section uses: the least, the largest, sums and counts.
use Rattle.std.specs.Prelude.{ℕ, zero, suc, ◌+◌, ◌*◌, ◌≤◌, Bool, false, cond, ◌&&◌, ◌||◌, leb}

-- The least number with a property: it has it, and whichever has it is no smaller.
pub record IsLeast (P : ℕ → Type 0) (n : ℕ) : Type 0 where
  pub holds : P n
  pub least : (m : ℕ) → P m → n ≤ m

-- The largest number with a property: it has it, and whichever has it is no larger.
pub record IsLargest (P : ℕ → Type 0) (n : ℕ) : Type 0 where
  pub holds : P n
  pub largest : (m : ℕ) → P m → m ≤ n

-- Whether a number lies in a range, both ends counted.
abbrev pub within : ℕ → ℕ → ℕ → Bool
within low n high = leb low n && leb n high

-- The sum of f over the numbers below n.
unfoldable pub sum : ℕ → (ℕ → ℕ) → ℕ
sum zero f = 0
sum (suc n) f = sum n f + f n

-- The product of f over the numbers below n.
unfoldable pub product : ℕ → (ℕ → ℕ) → ℕ
product zero f = 1
product (suc n) f = product n f * f n

-- How many of the numbers below n pass a test.
unfoldable pub count : ℕ → (ℕ → Bool) → ℕ
count n f = sum n (λ k. cond (f k) 1 0)

-- Whether any of the numbers below n passes a test.
unfoldable pub any : ℕ → (ℕ → Bool) → Bool
any zero f = false
any (suc n) f = any n f || f n
