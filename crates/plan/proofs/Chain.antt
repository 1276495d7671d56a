-- A row of judges is judged in order, however it is bracketed.
use Rattle.std.proofs.Common.{◌≡◌, ℕ, refl}
use Rattle.paper.specs.Fields.{Judged, passed, refused, ◌and_then◌}

-- The first refusal of three is that of the first, then of the other two.
pub and_then_assoc : (a b c : Judged) → (a and_then b) and_then c ≡ a and_then (b and_then c)
unfolding ◌and_then◌
and_then_assoc passed b c = refl
and_then_assoc (refused number place) b c = refl

-- A last judge with nothing to say changes nothing,
pub and_then_passed : (a : Judged) → a and_then passed ≡ a
unfolding ◌and_then◌
and_then_passed passed = refl
and_then_passed (refused number place) = refl

-- nor does a first one.
pub passed_and_then : (a : Judged) → passed and_then a ≡ a
unfolding ◌and_then◌
passed_and_then a = refl

-- A first refusal is the one that is given.
pub refused_and_then : (n p : ℕ) (a : Judged) → refused n p and_then a ≡ refused n p
unfolding ◌and_then◌
refused_and_then n p a = refl

-- What brings a row of judges into one order, and judges it.
pub ruleset chain = (and_then_assoc, and_then_passed, passed_and_then, refused_and_then)
