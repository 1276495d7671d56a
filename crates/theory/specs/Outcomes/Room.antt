-- Room that is enough for any report, and that a report lies within its room.
use Rattle.std.specs.Prelude.{ℕ, ◌≤◌, ◌≡◌}
use Rattle.std.proofs.Common.{arith}
use Rattle.paper.specs.Bytes.{Bytes}
use Rattle.paper.specs.Tables.{plan_of}
use Rattle.paper.specs.Refusals.{WellFormed}
use Rattle.paper.specs.Report.{report_length, report_bytes}
use Rattle.paper.specs.Answer.{Answer, Due, unread, unsound, short, overload, unbounded, accepted}
use Rattle.theory.specs.Plans.WellFormed.{well_formed→ranged}
use Rattle.theory.specs.Outcomes.Numbers.{unread_number, unsound_number}

-- No report is longer, so no well-formed plan is refused with 11 where there is so much room.
pub enough : (s : Bytes) → WellFormed s → report_length (plan_of s) ≤ report_bytes
unfolding report_length
enough s well = let ranged = well_formed→ranged s well in omega (arith, ranged.tasks, ranged.paths)

-- A report that is accepted lies within the room.
pub accepted_inside : {s : Bytes} {room : ℕ} {a : Answer} {out : Bytes} → Due s room a out → a.number ≡ 0 → a.place ≤ room
accepted_inside {s} (unread {number = n} {place = k} e) none = absurd (omega (arith, unread_number s n k e))
accepted_inside {s} (unsound {number = n} {place = k} _ first) none =
    absurd (omega (arith, unsound_number (plan_of s) n k first))
accepted_inside (short _ _) none = absurd (omega arith)
accepted_inside (overload _ _ _) none = absurd (omega arith)
accepted_inside (unbounded _ _ _ _ _) none = absurd (omega arith)
accepted_inside (accepted _ inside _ _) none = inside
