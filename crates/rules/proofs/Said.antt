-- What is to be said of a plan's bytes: nothing against a well-formed plan alone, and one thing at most.
use Rattle.std.proofs.Common.{ℕ, ◌≡◌, refl, sym, Result, Ok, Err, true, false}
use Rattle.std.proofs.lemmas.Bool.{false≢true}
use Rattle.std.specs.Result.{is_err}
use Rattle.paper.specs.Bytes.{Bytes}
use Rattle.paper.specs.Fields.{Judged, passed, refused}
use Rattle.paper.specs.Refusals.{rules, WellFormed}
use Rattle.theory.specs.Plans.Judging.{refused_not_passed}
use Rattle.theory.specs.Outcomes.Unique.{first_one, first_none}
use Rattle.plan.specs.declared.refusal.Refusal.{Refusal}
use Rattle.plan.specs.Judged.{said}
use Rattle.rules.specs.Judges.{Judges, unread, unsound, sound}

-- A plan that is not refused is well-formed,
pub well : {s : Bytes} → Judges s passed → WellFormed s
well (sound w) = w

-- and one that is refused is not.
pub ill : {s : Bytes} {number place : ℕ} → Judges s (refused number place) → WellFormed s → ⊥
ill (unread e) w = refused_not_passed e w.reads
ill (unsound e f) w = first_none (rules _) _ _ f w.sound

-- So where a judge finds nothing to refuse, the plan is well-formed,
pub passed_well : {s : Bytes} (judged : Result (Unit {0}) Refusal) → is_err judged ≡ false → Judges s (said judged) → WellFormed s
passed_well (Ok u) e j = well j
passed_well (Err r) e j = absurd (false≢true (sym e))

-- and where it refuses, it is not.
pub refused_ill : {s : Bytes} (judged : Result (Unit {0}) Refusal) → is_err judged ≡ true → Judges s (said judged) → WellFormed s → ⊥
refused_ill (Ok u) e j = absurd (false≢true e)
refused_ill (Err r) e j = ill j

-- One thing is to be said.
pub judges_one : {s : Bytes} {j j' : Judged} → Judges s j → Judges s j' → j ≡ j'
judges_one (unread e) (unread e') = cc
judges_one (unread e) (unsound e' f) = absurd (refused_not_passed e e')
judges_one (unread e) (sound w) = absurd (refused_not_passed e w.reads)
judges_one (unsound e f) (unread e') = absurd (refused_not_passed e' e)
judges_one (unsound e f) (unsound e' f') = let (n, k) = first_one (rules _) _ _ _ _ f f' in rw (n, k)
judges_one (unsound e f) (sound w) = absurd (first_none (rules _) _ _ f w.sound)
judges_one (sound w) (unread e) = absurd (refused_not_passed e w.reads)
judges_one (sound w) (unsound e f) = absurd (first_none (rules _) _ _ f w.sound)
judges_one (sound w) (sound w') = refl
