-- What `unless` gives, in the words of document 01.
use Rattle.std.proofs.Common.{◌≡◌, ◌∙◌, refl, ap, Bool, true, false, cond, Result, Ok, Err}
use Rattle.paper.specs.Fields.{unless}
use Rattle.plan.specs.declared.refusal.Refusal.{Refusal}
use Rattle.plan.specs.Judged.{number_of, place_of, said}

-- A refusal unless a test holds is said to be the document's, with its number and its place.
pub said_unless : (test : Bool) (r : Refusal) → said (cond test (Ok tt) (Err r)) ≡ unless test (number_of r) (place_of r)
unfolding unless
said_unless true r = refl
said_unless false r = refl

-- So is what `unless` has given.
pub given_unless : (test : Bool) (r : Refusal) {judged : Result (Unit {0}) Refusal} → judged ≡ cond test (Ok tt) (Err r)
    → said judged ≡ unless test (number_of r) (place_of r)
given_unless test r e = ap said e ∙ said_unless test r
