-- Tests and counts over the elements of a list, said over the numbers below its length.
use Rattle.std.proofs.Common.{ℕ, zero, suc, ◌+◌, ◌<◌, ◌≡◌, refl, ap, sym, add-one, ◌∙◌, arith}
use Rattle.std.proofs.Common.{List, [], ◌∷◌, Bool, true, false, cond, ◌||◌, length, get_or}
use Rattle.std.proofs.Math.Bool.{or_assoc, or-false}
use Rattle.std.specs.List.{list_any, filter}
use Rattle.paper.specs.Words.{any, count, sum}

-- Any of the numbers below n + 1 passes where 0 does, or any of the later ones.
any_first : (n : ℕ) (f : ℕ → Bool) → any (suc n) f ≡ (f 0 || any n (λ k. f (suc k)))
unfolding any
any_first zero f = sym (or-false (f 0))
any_first (suc n) f = ap (λ b. b || f (suc n)) (any_first n f) ∙ or_assoc (f 0) (any n (λ k. f (suc k))) (f (suc n))

-- As many of the numbers below n + 1 pass as 0 and the later ones.
count_first : (n : ℕ) (f : ℕ → Bool) → count (suc n) f ≡ cond (f 0) 1 0 + count n (λ k. f (suc k))
unfolding count sum
count_first zero f = omega arith
count_first (suc n) f = omega (arith, count_first n f)

module _ {A : Type 0} where
  -- Any element of a list passes where the one at any number below its length does.
  pub any_listed : (test : A → Bool) (d : A) (xs : List A) → list_any test xs ≡ any (length xs) (λ k. test (get_or xs k d))
  unfolding any
  any_listed test d [] = refl
  any_listed test d (x ∷ xs) =
      ap (λ b. test x || b) (any_listed test d xs) ∙ sym (any_first (length xs) (λ k. test (get_or (x ∷ xs) k d)))

  -- An element is kept where it passes.
  length_kept : (passes : Bool) (x : A) (xs : List A) → length (cond passes (x ∷ xs) xs) ≡ cond passes 1 0 + length xs
  length_kept true x xs = omega arith
  length_kept false x xs = omega arith

  -- As many elements of a list are kept as there are numbers below its length whose element passes.
  pub count_listed : (test : A → Bool) (d : A) (xs : List A)
      → length (filter test xs) ≡ count (length xs) (λ k. test (get_or xs k d))
  unfolding count sum
  count_listed test d [] = refl
  count_listed test d (x ∷ xs) =
      length_kept (test x) x (filter test xs)
      ∙ ap (λ n. cond (test x) 1 0 + n) (count_listed test d xs)
      ∙ sym (count_first (length xs) (λ k. test (get_or (x ∷ xs) k d)))

-- What is the same at each number below n passes at any of them alike.
pub any_same : (n : ℕ) (f g : ℕ → Bool) → ((k : ℕ) → k < n → f k ≡ g k) → any n f ≡ any n g
unfolding any
any_same zero f g same = refl
any_same (suc n) f g same =
    ap (λ b. b || f n) (any_same n f g (λ k h. same k (omega arith))) ∙ ap (λ b. any n g || b) (same n (omega arith))

-- Where none of the numbers below n passes, and n does not, none below n + 1 does.
pub none_more : (n : ℕ) (f : ℕ → Bool) → any n f ≡ false → f n ≡ false → any (n + 1) f ≡ false
unfolding any
none_more n f before here = rw (add-one n, before, here)
