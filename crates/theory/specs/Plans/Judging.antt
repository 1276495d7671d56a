-- Laws of judging: what is known when a row of judges passes, and when it refuses.
use Rattle.std.specs.Prelude.{ℕ, zero, suc, ◌+◌, ◌≤◌, ◌<◌, ◌≡◌, refl, ◌⊎◌, List, ◌∷◌, Bool, true, false, cond, leb, get_or, replicate}
use Rattle.std.proofs.Common.{inl, inr, leb-true, zero-add, add-zero, arith}
use Rattle.std.proofs.Math.Bool.{and-eq-true_iff}
use Rattle.paper.specs.Words.{within}
use Rattle.paper.specs.Bytes.{Bytes, number}
use Rattle.paper.specs.Fields.{Judged, passed, refused, ◌and_then◌, unless, Value, value, byte, in_ranges}

-- No judge both refuses and passes.
pub refused_not_passed : {judged : Judged} {n p : ℕ} → judged ≡ refused n p → judged ≡ passed → ⊥
refused_not_passed r e = let z : ◌≡◌ {A = ℕ} 0 1 = cc in omega arith

-- Where two judges pass together, each of them passes.
pub passed_both : (a b : Judged) → (a and_then b) ≡ passed → (a ≡ passed) × (b ≡ passed)
unfolding ◌and_then◌
passed_both passed b e = (refl, e)
passed_both (refused n p) b e = absurd (refused_not_passed refl e)

-- Where two judges refuse together, the first refuses, or it passes and the later one refuses.
pub then_refused : (a b : Judged) (n p : ℕ) → (a and_then b) ≡ refused n p
    → (a ≡ refused n p) ⊎ ((a ≡ passed) × (b ≡ refused n p))
unfolding ◌and_then◌
then_refused passed b n p e = inr (refl, e)
then_refused (refused m q) b n p e = inl e

-- Where a refusal unless a test holds is not given, the test holds.
pub unless_passed : (b : Bool) (n p : ℕ) → unless b n p ≡ passed → b ≡ true
unfolding unless
unless_passed true n p e = refl
unless_passed false n p e = absurd (refused_not_passed refl e)

-- Where it is given, the test fails, and it is the refusal that was named.
pub unless_refused : (b : Bool) (n p m q : ℕ) → unless b n p ≡ refused m q → (b ≡ false) × (m ≡ n) × (q ≡ p)
unfolding unless
unless_refused true n p m q e = let z : ◌≡◌ {A = ℕ} 0 1 = cc in absurd (omega arith)
unless_refused false n p m q e = (refl, cc, cc)

-- Where a choice between two judges passes, the chosen one does.
pub cond_passed : (b : Bool) (yea nay : Judged) → cond b yea nay ≡ passed
    → ((b ≡ true) × (yea ≡ passed)) ⊎ ((b ≡ false) × (nay ≡ passed))
cond_passed true yea nay e = inl (refl, e)
cond_passed false yea nay e = inr (refl, e)

-- A number that passes the test of a range is in it.
pub within_true : (low n high : ℕ) → within low n high ≡ true → (low ≤ n) × (n ≤ high)
within_true low n high e =
    let both = (and-eq-true_iff (leb low n) (leb n high)).0 e in
    (leb-true low n both.0, leb-true n high both.1)

-- What a row of values that passes says: the first is in its range, and the others pass.
pub record InRange (s : Bytes) (at width least most : ℕ) (others : List Value) : Type 0 where
  pub low : least ≤ number s at width
  pub high : number s at width ≤ most
  pub rest : in_ranges s (at + width) others ≡ passed

-- Where a row of values passes, it says that.
pub in_range : (s : Bytes) (at width least most : ℕ) (others : List Value)
    → in_ranges s at (value width least most ∷ others) ≡ passed → InRange s at width least most others
unfolding in_ranges
in_range s at width least most others e =
    let both = passed_both _ _ e in
    let sides = within_true least (number s at width) most (unless_passed _ _ _ both.0) in
    record { low = sides.0; high = sides.1; rest = both.1 }

-- A number of one byte is that byte.
pub one_byte : (s : Bytes) (at : ℕ) → number s at 1 ≡ get_or s at 0
unfolding number
one_byte s at = rw (zero-add, add-zero)

-- In a row of bytes of one range that passes, every byte is in the range.
pub in_ranges_pass : (s : Bytes) (at n least most : ℕ) → in_ranges s at (replicate n (byte least most)) ≡ passed
    → (i : ℕ) → i < n → (least ≤ get_or s (at + i) 0) × (get_or s (at + i) 0 ≤ most)
in_ranges_pass s at zero least most e i h = absurd (omega arith)
in_ranges_pass s at (suc n) least most e zero h =
    let now = in_range s at 1 least most (replicate n (byte least most)) e in
    rw (add-zero, ← one_byte s at) (now.low, now.high)
in_ranges_pass s at (suc n) least most e (suc i) h =
    let now = in_range s at 1 least most (replicate n (byte least most)) e in
    let there : at + suc i ≡ at + 1 + i = omega arith in
    rw there (in_ranges_pass s (at + 1) n least most now.rest i (omega arith))
