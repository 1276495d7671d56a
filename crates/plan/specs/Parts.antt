-- Parts of lent bytes.
use Rattle.std.specs.Prelude.{ℕ, ◌+◌, ◌≡◌}
use Rattle.std.specs.Borrow.{Bor}
use Rattle.paper.specs.Bytes.{Bytes}

-- A part begins at a place of lent bytes: it points into the block in which they lie, so many bytes behind where they begin. Equal
-- bytes anywhere else are another part.
pub record BeginsAt (s : Bor Bytes) (from : ℕ) (part : Bor Bytes) : Type 0 where
  pub block : part.ref_ptr.0 ≡ s.ref_ptr.0
  pub offset : part.ref_ptr.1 ≡ s.ref_ptr.1 + from
