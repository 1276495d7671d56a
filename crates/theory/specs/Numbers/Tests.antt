-- Laws of tests: both of two, either of two, any of many.
use Rattle.std.specs.Prelude.{ℕ, zero, suc, ◌<◌, ◌≡◌, refl, ◌⊎◌, Bool, true, false, ◌&&◌, ◌||◌}
use Rattle.std.proofs.Common.{inl, inr, ⊎_elim, arith}
use Rattle.std.proofs.lemmas.Bool.{false≢true}
use Rattle.std.proofs.Math.Bool.{or-true}
use Rattle.std.proofs.Math.Decide.{ℕ_discrete}
use Rattle.paper.specs.Words.{any}

-- Two tests pass together only where both pass.
pub both : (a b : Bool) → (a && b) ≡ true → (a ≡ true) × (b ≡ true)
both true b e = (refl, e)
both false b e = absurd (false≢true e)

-- One of two tests passes only where the first or the second passes.
either : (a b : Bool) → (a || b) ≡ true → (a ≡ true) ⊎ (b ≡ true)
either true b e = inl refl
either false b e = inr e

-- A test passes or not.
pub passes_or_not : (a : Bool) → (a ≡ true) ⊎ (a ≡ false)
passes_or_not true = inl refl
passes_or_not false = inr refl

-- Any of the numbers below n passes a test only where some one does.
pub some_passes : (n : ℕ) (f : ℕ → Bool) → any n f ≡ true → (k : ℕ) × (k < n) × (f k ≡ true)
unfolding any
some_passes zero f e = absurd (false≢true e)
some_passes (suc n) f e =
    ⊎_elim
    (λ h. let (k, l, passes) = some_passes n f h in (k, omega arith, passes))
    (λ h. (n, omega arith, h))
    (either (any n f) (f n) e)

-- Where some one of the numbers below n passes a test, any does.
pub passes_any : (n : ℕ) (f : ℕ → Bool) (k : ℕ) → k < n → f k ≡ true → any n f ≡ true
unfolding any
passes_any zero f k h e = absurd (omega arith)
passes_any (suc n) f k h e =
    elim (ℕ_discrete k n) [
      | yes last ↦ rw (← last, e, or-true)
      | no other ↦ rw (passes_any n f k (omega arith) e)
    ]
