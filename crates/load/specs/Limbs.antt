-- Numbers in limbs of 32 bits, the least significant limb first: a limb for each task that a controller may have.
use Rattle.std.specs.Prelude.{ℕ, zero, suc, ◌+◌, ◌*◌, ◌≤◌, ◌<◌, ◌≡◌, List, length, get_or}
use Rattle.paper.specs.Limits.{most_sharing}

-- What a limb counts to.
abbrev pub base : ℕ
base = 0x1_0000_0000

-- What a one in limb n is worth, and what the n limbs before it count to.
unfoldable pub power : ℕ → ℕ
power zero = 1
power (suc n) = power n * base

-- The number in the first n limbs.
unfoldable pub value : ℕ → List ℕ → ℕ
value zero a = 0
value (suc n) a = value n a + get_or a n 0 * power n

-- The number in all limbs.
unfoldable pub number : List ℕ → ℕ
number a = value most_sharing a

-- All the limbs, each below the base.
pub record Limbs (a : List ℕ) : Type 0 where
  pub all : length a ≡ most_sharing
  pub small : (i : ℕ) → get_or a i 0 < base

-- Limbs of which only the first n are used: the others are 0.
pub record Used (n : ℕ) (a : List ℕ) : Type 0 where
  pub limbs : Limbs a
  pub unused : (i : ℕ) → n ≤ i → get_or a i 0 ≡ 0

-- The first n limbs have room for a·m + b·c, and 64 bits have room for each step on the way there.
pub record HasRoom (n : ℕ) (a : List ℕ) (m : ℕ) (b : List ℕ) (c : ℕ) : Type 0 where
  pub counted : n ≤ most_sharing
  pub a_used : Used n a
  pub b_used : Used n b
  pub factors : m + c < base
  pub room : number a * m + number b * c < power n

-- What has become of limbs a when a·m + b·c has been put into them.
pub record MulAdded (n : ℕ) (a : List ℕ) (m : ℕ) (b : List ℕ) (c : ℕ) (after : List ℕ) : Type 0 where
  pub used : Used n after
  pub becomes : number after ≡ number a * m + number b * c
