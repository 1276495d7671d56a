-- The answer's number, place and sweep number, as document 01 has them, for each case of the code's answer.
use Rattle.std.specs.Prelude.{ℕ, ◌≡◌, Some, None, Result, Ok, Err}
use Rattle.paper.specs.Bytes.{Bytes}
use Rattle.paper.specs.Tables as Tables
use Rattle.paper.specs.Answer as Paper
use Rattle.stream.specs.declared.kinds.ControllerNo.{ControllerNo}
use Rattle.plan.specs.Judged.{number_of, place_of}
use Rattle.load.specs.Shares as Load
use Rattle.bench.specs.declared.answers.Accepted.{Accepted}
use Rattle.bench.specs.declared.answers.Numbers.{Numbers}
use Rattle.bench.specs.declared.answers.Refusal.{Refusal}
use Rattle.bench.specs.declared.answers.Refusal.TheVariants.{Plan, Short, Overloaded, Unbounded}

-- Number, place and sweep number.
abbrev pub said : Result Accepted Refusal → Paper.Answer
said (Ok a) = record { number = 0; place = a.length; sweep = a.sweep }
said (Err (Plan r)) = record { number = number_of r; place = place_of r; sweep = 0 }
said (Err (Short needed)) = record { number = 11; place = needed; sweep = 0 }
said (Err (Overloaded controller)) = record { number = 12; place = controller.0; sweep = 0 }
said (Err (Unbounded left)) = record { number = 13; place = left.task.0; sweep = left.sweep }

-- The code's three numbers as document 01's.
abbrev pub numbered : Numbers → Paper.Answer
numbered n = record { number = n.number; place = n.place; sweep = n.sweep }

-- The entry's contract: the answer is due, with what the report space holds.
pub record Answers (s : Bytes) (room : ℕ) (answer : Result Accepted Refusal) (out : Bytes) : Type 0 where
  pub due : Paper.Due s room (said answer) out

-- What weighing the controllers says of a plan: no load is above one, or the lowest controller whose load is is refused.
abbrev pub Weighs : Tables.Plan → Result (Unit {0}) Refusal → Type 0
Weighs p (Ok u) = Load.Says p None
Weighs p (Err r) = (c : ControllerNo) × (r ≡ Overloaded c) × Load.Says p (Some c)

-- The answer is due, and the report space holds the report where the plan is accepted. Where it is refused, the answer is due
-- once FF stands in the whole space.
abbrev pub Ready : (s : Bytes) (room : ℕ) → Result Accepted Refusal → Bytes → Type 0
Ready s room (Ok a) out = Answers s room (Ok a) out
Ready s room (Err r) out = Answers s room (Err r) (Paper.blank room)
