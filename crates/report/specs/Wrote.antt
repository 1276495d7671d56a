-- Writing over a part of a space.
use Rattle.std.specs.Prelude.{ℕ, ◌≡◌}
use Rattle.std.proofs.lemmas.List.Edits.{sets}
use Rattle.paper.specs.Bytes.{Bytes}

-- Bytes were written over a space from a place on, and what is left of the space stayed as it was.
pub record Wrote (space : Bytes) (at : ℕ) (written after : Bytes) : Type 0 where
  pub is : after ≡ sets space at written
