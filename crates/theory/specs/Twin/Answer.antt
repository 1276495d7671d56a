-- The answer by computing: from plan bytes and room to the answer and what the report space then holds.
use Rattle.std.specs.Prelude.{ℕ, ◌-◌, ◌≤◌, ◌≡◌, cond, [], ◌++◌, ltb, length}
use Rattle.std.proofs.Math.Path.{refl}
use Rattle.std.proofs.Common.{⊎_elim, ltb-true, ltb-false}
use Rattle.std.proofs.Math.Option.{Option, none, some}
use Rattle.std.proofs.Math.Nat.{sub-zero}
use Rattle.paper.specs.Bytes.{Bytes}
use Rattle.paper.specs.Fields.{Judged, passed, refused, ◌and_then◌}
use Rattle.paper.specs.Tables.{Plan, plan_of}
use Rattle.paper.specs.Refusals.{read, WellFormed}
use Rattle.paper.specs.Report.{report, report_length}
use Rattle.paper.specs.Load.{Overloaded}
use Rattle.paper.specs.Answer.{Answer, blank, Due, unread, unsound, short, overload, unbounded, accepted}
use Rattle.theory.specs.Plans.Judging.{passed_both, then_refused}
use Rattle.theory.specs.Plans.WellFormed.{read_feeders, well_formed→sound}
use Rattle.theory.specs.Sweeps.Climbs.{climbing}
use Rattle.theory.specs.Sweeps.Demand2.{no_bound}
use Rattle.theory.specs.Report.Length.{length_report}
use Rattle.theory.specs.Twin.Finding.{Lowest, choice}
use Rattle.theory.specs.Twin.Sweeps.{Ended, settles, leaves, ended, EndsSo, ended_says}
use Rattle.theory.specs.Twin.Judge.{overloaded, overloaded_says, judge, judge_says}

-- What is handed back: the answer, and the report, empty with a refusal.
pub record Outcome : Type 0 where
  pub answer : Answer
  pub report : Bytes

-- A refusal.
abbrev pub refusal : (number place sweep : ℕ) → Outcome
refusal number place sweep =
    record { answer = record { number = number; place = place; sweep = sweep }; report = [] }

-- What the report space holds: what is written, and FF to its end.
abbrev pub space : ℕ → Bytes → Bytes
space room written = written ++ blank (room - length written)

-- An outcome is due for plan bytes and room.
abbrev pub IsDue : Bytes → ℕ → Outcome → Type 0
IsDue s room o = Due s room o.answer (space room o.report)

-- 13 or 0, as the sweeps end.
unfoldable pub swept : Plan → Ended → Outcome
swept p (settles f) =
    record { answer = record { number = 0; place = report_length p; sweep = f.sweeps }; report = report p f }
swept p (leaves sweep task) = refusal 13 task sweep

-- 12 at the overloaded controller found, if one is, and otherwise 13 or 0.
unfoldable pub loaded : Plan → Option ℕ → Outcome
loaded p none = swept p (ended p)
loaded p (some controller) = refusal 12 controller 0

-- The outcome for a well-formed plan's tables, with room enough.
unfoldable pub weighed : Plan → Outcome
weighed p = loaded p (overloaded p)

-- The refusal judged before 11, if there is one, and otherwise 11, 12, 13 or 0.
unfoldable pub judged : Plan → ℕ → Judged → Outcome
judged p room (refused number place) = refusal number place 0
judged p room passed =
    let enough : Outcome = weighed p in
    cond (ltb room (report_length p)) (refusal 11 (report_length p) 0) enough

-- The refusal judged before 11, if one is due: by reading, then by the tables.
unfoldable pub before11 : Bytes → Judged
before11 s = read s and_then judge (plan_of s)

-- The outcome for plan bytes and room.
unfoldable pub outcome : Bytes → ℕ → Outcome
outcome s room = judged (plan_of s) room (before11 s)

-- Where there is none, the plan is well-formed.
pub passed_well : (s : Bytes) → before11 s ≡ passed → WellFormed s
unfolding before11
passed_well s e =
    let each = passed_both _ _ e in
    record {
      reads = each.0;
      sound = rw each.1 at (judge_says (plan_of s) (read_feeders s each.0));
    }

module _ (s : Bytes) (room : ℕ) where
  -- A refusal that is due with a blank space is an outcome that is due.
  refusal_due : (number place sweep : ℕ)
      → Due s room (record { number = number; place = place; sweep = sweep }) (blank room)
      → IsDue s room (refusal number place sweep)
  refusal_due number place sweep due = rw (sub-zero room) due

  module _ (well : WellFormed s) (enough : report_length (plan_of s) ≤ room) where
    -- Where no controller is overloaded, the outcome is due as the sweeps end.
    swept_due : ((controller : ℕ) → Overloaded (plan_of s) controller → ⊥) → (e : Ended) → EndsSo (plan_of s) e
        → IsDue s room (swept (plan_of s) e)
    unfolding swept
    swept_due light (settles f) reported = rw (length_report (plan_of s) f) (accepted well enough light reported)
    swept_due light (leaves sweep task) leaving =
        let laws = climbing (plan_of s) (well_formed→sound s well) in
        refusal_due 13 task sweep
        (unbounded well enough light ((no_bound (plan_of s) laws).0 (sweep, task, leaving)) leaving)

    -- The outcome is due as a controller is found to be overloaded, or none is.
    loaded_due : (found : Option ℕ) → Lowest (Overloaded (plan_of s)) found → IsDue s room (loaded (plan_of s) found)
    unfolding loaded
    loaded_due none light = swept_due light (ended (plan_of s)) (ended_says (well_formed→sound s well))
    loaded_due (some controller) first = refusal_due 12 controller 0 (overload well enough first)

    -- With room enough, the outcome for a well-formed plan's tables is due.
    pub weighed_due : IsDue s room (weighed (plan_of s))
    unfolding weighed
    weighed_due = loaded_due (overloaded (plan_of s)) (overloaded_says (plan_of s))

  -- The outcome is due as the plan is judged.
  judged_due : (j : Judged) → before11 s ≡ j → IsDue s room (judged (plan_of s) room j)
  unfolding judged before11
  judged_due passed e =
      let well = passed_well s e in
      choice (IsDue s room) (ltb room (report_length (plan_of s)))
      (λ less. refusal_due 11 (report_length (plan_of s)) 0 (short well (ltb-true _ _ less)))
      (λ enough. weighed_due well (ltb-false _ _ enough))
  judged_due (refused number place) e =
      refusal_due number place 0
      (⊎_elim unread
      (λ later. unsound later.0 (rw later.1 at (judge_says (plan_of s) (read_feeders s later.0))))
      (then_refused _ _ number place e))

  -- Whatever the plan bytes and the room, the outcome is due.
  pub outcome_due : IsDue s room (outcome s room)
  unfolding outcome
  outcome_due = judged_due (before11 s) refl

-- For all plan bytes and every room some answer is due, with some content of the report space.
pub due_some : (s : Bytes) (room : ℕ) → (a : Answer) × (out : Bytes) × Due s room a out
due_some s room = ((outcome s room).answer, space room (outcome s room).report, outcome_due s room)
