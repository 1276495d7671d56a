-- Two sets of figures, pair by pair: whether their bounds are the same.
use Rattle.std.proofs.Common.{ℕ, ◌<◌, ◌≡◌, arith, Bool, true, false, List, length, get_or}
use Rattle.std.proofs.lemmas.Slice.Zip.{length-zip, get_or-zip}
use Rattle.std.specs.Bool.{MatchBool}
use Rattle.std.specs.List.{AllWithin, HoldsAt, zip}
use Rattle.theory.specs.Sweeps.Climb.{Same}
use Rattle.sweep.specs.declared.once.Figure.{Figure}
use Rattle.sweep.specs.Rows.{bounds_of, no_figure, Tells}

-- The bounds of a pair are the same,
abbrev pub Alike : Figure × Figure → Type 0
Alike pair = pair.0.bound.0 ≡ pair.1.bound.0

-- or they are not.
abbrev pub Apart : Figure × Figure → Type 0
Apart pair = Alike pair → ⊥

module _ (old new : List Figure) (long : length old ≡ length new) where
  -- There are as many pairs as figures in a set.
  pairs : length (zip old new) ≡ length old
  pairs = omega (arith, long, length-zip old new)

  -- Pair k holds the bounds under k.
  at_pair : (k : ℕ) → k < length old → (P : ℕ → ℕ → Type 0)
      → ((d : Figure × Figure) → P (get_or (zip old new) k d).0.bound.0 (get_or (zip old new) k d).1.bound.0)
      → P (bounds_of old k) (bounds_of new k)
  at_pair k l P holds =
      let d : Figure × Figure = (no_figure, no_figure) in
      rw (get_or-zip old new k d l (omega (arith, long))) at (holds d)

  -- A test that all pairs pass, or that one does not, tells whether the bounds are the same.
  pub alike_told : (r : Bool)
      → MatchBool r (AllWithin Alike (zip old new) 0 (length (zip old new)))
      ((k : ℕ) × (k < length (zip old new)) × HoldsAt Apart (zip old new) k)
      → Tells r (Same (length old) (bounds_of old) (bounds_of new))
  alike_told true all = λ k l. at_pair k l (λ a b. a ≡ b) (λ d. all k d (omega arith) (omega (arith, pairs, l)))
  alike_told false (k, l, apart) =
      λ same.
      let h : k < length old = omega (arith, pairs, l) in
      at_pair k h (λ a b. (a ≡ b) → ⊥) apart (same k h)
