-- The entry has one outcome: one answer, and one content of the report space.
use Rattle.std.specs.Prelude.{ℕ, ◌≡◌, refl, cond, eqb, Result, Ok, Err}
use Rattle.std.proofs.Common.{sym, ap, ◌∙◌}
use Rattle.paper.specs.Bytes.{Bytes}
use Rattle.paper.specs.Answer as Paper
use Rattle.theory.specs.Outcomes.Unique.{due_one}
use Rattle.plan.specs.declared.refusal.Refusal as plan
use Rattle.plan.specs.declared.refusal.Refusal.TheVariants.{TooLong, Cut, WrongTag, WrongLength, OutOfRange, MoreBytes}
use Rattle.plan.specs.declared.refusal.Refusal.TheVariants.{SharedPriority, NoStart, NotFed, Crowded}
use Rattle.bench.specs.declared.answers.Accepted.{Accepted}
use Rattle.bench.specs.declared.answers.Refusal.{Refusal}
use Rattle.bench.specs.declared.answers.Refusal.TheVariants.{Plan, Short, Overloaded, Unbounded}
use Rattle.bench.specs.Answers.{said, Answers}

-- The refusal of a plan that has a number and a place.
abbrev plan_refusal : (number place : ℕ) → plan.Refusal
plan_refusal number place =
    cond (eqb number 1) TooLong
    (cond (eqb number 2) (Cut place)
    (cond (eqb number 3) (WrongTag place)
    (cond (eqb number 4) (WrongLength place)
    (cond (eqb number 5) (OutOfRange place)
    (cond (eqb number 6) (MoreBytes place)
    (cond (eqb number 7) (SharedPriority (record { 0 = place }))
    (cond (eqb number 8) (NoStart (record { 0 = place }))
    (cond (eqb number 9) (NotFed place) (Crowded (record { 0 = place }))))))))))

-- The code's answer with a number, a place and a sweep number.
abbrev answer_of : Paper.Answer → Result Accepted Refusal
answer_of a =
    cond (eqb a.number 0) (Ok (record { length = a.place; sweep = a.sweep }))
    (cond (eqb a.number 11) (Err (Short a.place))
    (cond (eqb a.number 12) (Err (Overloaded (record { 0 = a.place })))
    (cond (eqb a.number 13) (Err (Unbounded (record { task = record { 0 = a.place }; sweep = a.sweep })))
    (Err (Plan (plan_refusal a.number a.place))))))

-- Each answer is the one that its numbers give.
said_back : (r : Result Accepted Refusal) → answer_of (said r) ≡ r
said_back (Ok a) = refl
said_back (Err (Plan TooLong)) = refl
said_back (Err (Plan (Cut at))) = refl
said_back (Err (Plan (WrongTag at))) = refl
said_back (Err (Plan (WrongLength at))) = refl
said_back (Err (Plan (OutOfRange at))) = refl
said_back (Err (Plan (MoreBytes at))) = refl
said_back (Err (Plan (SharedPriority task))) = refl
said_back (Err (Plan (NoStart task))) = refl
said_back (Err (Plan (NotFed path))) = refl
said_back (Err (Plan (Crowded controller))) = refl
said_back (Err (Short needed)) = refl
said_back (Err (Overloaded controller)) = refl
said_back (Err (Unbounded left)) = refl

-- Two answers with the same numbers are one answer, to its case.
case_one : (r r' : Result Accepted Refusal) → said r ≡ said r' → r ≡ r'
case_one r r' same = sym (said_back r) ∙ ap answer_of same ∙ said_back r'

-- No two outcomes meet the entry's contract for one plan and one room: two that do are one answer and one content of the
-- report space.
pub answer_one : {s : Bytes} {room : ℕ} {r r' : Result Accepted Refusal} {out out' : Bytes} → Answers s room r out
    → Answers s room r' out' → (r ≡ r') × (out ≡ out')
answer_one {r = r} {r' = r'} a a' =
    let one = due_one a.due a'.due in
    (case_one r r' one.0, one.1)
