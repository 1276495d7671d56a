-- Where a field begins, and how far off that can be.
use Rattle.std.specs.Prelude.{ℕ, ◌*◌, ◌≤◌, ◌≡◌}
use Rattle.paper.specs.Bytes.{Bytes}
use Rattle.paper.specs.Fields.{place}

-- Field number f begins at a place, which is no further off than fields with lengths of two bytes can reach.
pub record Begins (s : Bytes) (f at : ℕ) : Type 0 where
  pub is : at ≡ place s f
  pub near : at ≤ 65_538 * f
