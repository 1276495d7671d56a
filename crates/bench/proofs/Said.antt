-- What an answer says, for those that put it into words.
use Rattle.std.proofs.Common.{ℕ, ◌≤◌, ◌≡◌, refl, eqb, false, Result, Ok, Err, IfOk}
use Rattle.paper.specs.Bytes.{Bytes}
use Rattle.theory.specs.Outcomes.Room.{accepted_inside}
use Rattle.plan.specs.declared.refusal.Refusal.TheVariants.{TooLong, Cut, WrongTag, WrongLength, OutOfRange, MoreBytes}
use Rattle.plan.specs.declared.refusal.Refusal.TheVariants.{SharedPriority, NoStart, NotFed, Crowded}
use Rattle.bench.specs.declared.answers.Accepted.{Accepted}
use Rattle.bench.specs.declared.answers.Refusal.{Refusal}
use Rattle.bench.specs.declared.answers.Refusal.TheVariants.{Plan, Short, Overloaded, Unbounded}
use Rattle.bench.specs.Answers.{said, Answers}

-- A refusal's number is not 0.
pub refused_number : (r : Refusal) → eqb (said (Err r)).number 0 ≡ false
refused_number (Plan TooLong) = refl
refused_number (Plan (Cut at)) = refl
refused_number (Plan (WrongTag at)) = refl
refused_number (Plan (WrongLength at)) = refl
refused_number (Plan (OutOfRange at)) = refl
refused_number (Plan (MoreBytes at)) = refl
refused_number (Plan (SharedPriority task)) = refl
refused_number (Plan (NoStart task)) = refl
refused_number (Plan (NotFed path)) = refl
refused_number (Plan (Crowded controller)) = refl
refused_number (Short needed) = refl
refused_number (Overloaded controller) = refl
refused_number (Unbounded left) = refl

-- A report that is accepted lies inside its room.
pub report_inside : {s out : Bytes} {room : ℕ} (answer : Result Accepted Refusal) → Answers s room answer out
    → IfOk answer (λ accepted. accepted.length ≤ room)
report_inside (Ok accepted) answers = accepted_inside answers.due refl
report_inside (Err r) answers = tt
