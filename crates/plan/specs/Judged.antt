-- What a judge of the code says, as document 01 says it.
use Rattle.std.specs.Prelude.{ℕ, Result, Ok, Err}
use Rattle.paper.specs.Fields as Fields
use Rattle.paper.specs.Fields.{passed, refused}
use Rattle.plan.specs.declared.refusal.Refusal.{Refusal}
use Rattle.plan.specs.declared.refusal.Refusal.TheVariants.{TooLong, Cut, WrongTag, WrongLength, OutOfRange}
use Rattle.plan.specs.declared.refusal.Refusal.TheVariants.{MoreBytes, SharedPriority, NoStart, NotFed, Crowded}

-- The document's number of a refusal.
abbrev pub number_of : Refusal → ℕ
number_of TooLong = 1
number_of (Cut at) = 2
number_of (WrongTag at) = 3
number_of (WrongLength at) = 4
number_of (OutOfRange at) = 5
number_of (MoreBytes at) = 6
number_of (SharedPriority task) = 7
number_of (NoStart task) = 8
number_of (NotFed path) = 9
number_of (Crowded controller) = 10

-- The place of a refusal.
abbrev pub place_of : Refusal → ℕ
place_of TooLong = 0
place_of (Cut at) = at
place_of (WrongTag at) = at
place_of (WrongLength at) = at
place_of (OutOfRange at) = at
place_of (MoreBytes at) = at
place_of (SharedPriority task) = task.0
place_of (NoStart task) = task.0
place_of (NotFed path) = path
place_of (Crowded controller) = controller.0

-- The document's judgement for each case.
abbrev pub said : Result (Unit {0}) Refusal → Fields.Judged
said (Ok u) = passed
said (Err r) = refused (number_of r) (place_of r)
