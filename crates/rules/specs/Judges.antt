-- What is to be said of a plan's bytes before a report is asked for.
use Rattle.std.specs.Prelude.{ℕ, ◌≡◌}
use Rattle.paper.specs.Bytes.{Bytes}
use Rattle.paper.specs.Fields.{Judged, passed, refused}
use Rattle.paper.specs.Tables.{plan_of}
use Rattle.paper.specs.Refusals.{read, rules, First, WellFormed}

-- What is to be said of a plan's bytes by refusals 1 to 10.
pub data Judges (s : Bytes) : Judged → Type 0 where
  -- 1 to 6, by reading
  unread : {number place : ℕ} → read s ≡ refused number place → Judges s (refused number place)
  -- 7 to 10, by the tables
  unsound : {number place : ℕ} → read s ≡ passed → First (rules (plan_of s)) number place → Judges s (refused number place)
  -- "A plan is well-formed when no refusal judged before 11 is due."
  sound : WellFormed s → Judges s passed
