-- The answer: the one relation between plan bytes, room, answer and the report space at exit.
use Rattle.std.specs.Prelude.{ℕ, ◌-◌, ◌≤◌, ◌<◌, ◌≡◌, ◌++◌, replicate}
use Rattle.paper.specs.Words.{IsLeast}
use Rattle.paper.specs.Bytes.{Bytes}
use Rattle.paper.specs.Fields.{passed, refused}
use Rattle.paper.specs.Tables.{Plan, plan_of}
use Rattle.paper.specs.Refusals.{read, rules, First, WellFormed}
use Rattle.paper.specs.Windows.{Bounded, setting}
use Rattle.paper.specs.Sets.{Bounds, inputs, Fits, LeastSet}
use Rattle.paper.specs.Sweeps.{Settles, Leaving}
use Rattle.paper.specs.Load.{Overloaded}
use Rattle.paper.specs.Report.{Figures, report, report_length}

-- "The answer is a number, a place and a sweep number."
pub record Answer : Type 0 where
  pub number : ℕ
  pub place : ℕ
  pub sweep : ℕ

-- "Every refusal sets each byte of the report space to FF."
abbrev pub blank : ℕ → Bytes
blank room = replicate room 0xFF

-- "The report gives the least consistent set within limits", the jobs looked at, and the number of the first sweep that
-- changed nothing.
pub record Reported (p : Plan) (f : Figures) : Type 0 where
  pub least : LeastSet p f.R
  pub settles : Settles p f.sweeps f.R
  pub bounded : (k : ℕ) → k < p.tasks → Bounded (setting p (inputs p f.R) k) (f.R k) (f.jobs k)

-- The answer that is due for a plan's bytes, the room for a report, and what the report space then holds. "Order: 1; then
-- field by field; then 6 to 13 by number"; "Sweeps are 0 except for 0 and 13".
pub data Due (s : Bytes) (room : ℕ) : Answer → Bytes → Type 0 where
  -- 1 to 6, by reading
  unread : {number place : ℕ} → read s ≡ refused number place
      → Due s room (record { number = number; place = place; sweep = 0 }) (blank room)
  -- 7 to 10, by the tables
  unsound : {number place : ℕ} → read s ≡ passed → First (rules (plan_of s)) number place
      → Due s room (record { number = number; place = place; sweep = 0 }) (blank room)
  -- 11: "report space too short", "bytes needed"
  short : WellFormed s → room < report_length (plan_of s)
      → Due s room (record { number = 11; place = report_length (plan_of s); sweep = 0 }) (blank room)
  -- 12: "exact load above one", "lowest such controller"
  overload : {controller : ℕ} → WellFormed s → report_length (plan_of s) ≤ room → IsLeast (Overloaded (plan_of s)) controller
      → Due s room (record { number = 12; place = controller; sweep = 0 }) (blank room)
  -- 13: "no bound within limits"
  unbounded : {task sweep : ℕ} → WellFormed s → report_length (plan_of s) ≤ room
      → ((controller : ℕ) → Overloaded (plan_of s) controller → ⊥)
      → ((R : Bounds) → Fits (plan_of s) R → ⊥) → Leaving (plan_of s) sweep task
      → Due s room (record { number = 13; place = task; sweep = sweep }) (blank room)
  -- 0: "accepted", "report length"; "An accepted report is followed by FF to the end of the space."
  accepted : {f : Figures} → WellFormed s → report_length (plan_of s) ≤ room
      → ((controller : ℕ) → Overloaded (plan_of s) controller → ⊥) → Reported (plan_of s) f
      → Due s room
      (record { number = 0; place = report_length (plan_of s); sweep = f.sweeps })
      (report (plan_of s) f ++ blank (room - report_length (plan_of s)))
