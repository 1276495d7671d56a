-- The starred runs of document 01's "Runs on the test bench": one table, one claim.
use Rattle.std.specs.Prelude.{ℕ, ◌≤◌, ◌≡◌, refl, length, replicate}
use Rattle.std.proofs.Common.{inl, inr}
use mathlib.Core.List.Memᴰ
use mathlib.Core.List.{List, [], ◌∷◌, ◌++◌, map, flatten, Memᴰ}
use mathlib.Core.List.{cons-eq-cons}
use Rattle.paper.specs.Bytes.{Bytes, bytes, difference}
use Rattle.paper.specs.Fields.{passed}
use Rattle.paper.specs.Tables.{Source, outside, fed, plan_of}
use Rattle.paper.specs.Refusals.{WellFormed}
use Rattle.paper.specs.Report.{record_of, head_record, task_record, verdict, path_record, each, report_length}
use Rattle.paper.specs.Answer.{Due}
use Rattle.theory.specs.Twin.Answer.{Outcome, refusal, space}
use Rattle.theory.specs.Twin.Computed.{computed, computed_well, computed_due}
use Rattle.theory.specs.Case.J

infix 80 ◌gets◌
-- Events from outside every P ticks, with jitter J.
abbrev pub every : (P J : ℕ) → Source
every P J = outside (record { P = P; J = J })

-- A task's field, a 20 or a 21.
unfoldable pub task_between : (controller priority C- C+ : ℕ) → Source → Bytes
unfolding record_of bytes
task_between controller priority C- C+ (outside M) =
    record_of 0x20 (controller ∷ priority ∷ bytes 4 C- ++ bytes 4 C+ ++ bytes 4 M.P ++ bytes 4 M.J)
task_between controller priority C- C+ (fed j) =
    record_of 0x21 (controller ∷ priority ∷ bytes 4 C- ++ bytes 4 C+ ++ (j ∷ []))

-- A task's field with C- = C+ = C.
unfoldable pub task_of : (controller priority C : ℕ) → Source → Bytes
unfolding task_between
task_of controller priority C = task_between controller priority C C

-- A path's field.
unfoldable pub path_of : (deadline : ℕ) → List ℕ → Bytes
unfolding record_of bytes
path_of deadline tasks = record_of 0x30 (bytes 4 deadline ++ tasks)

-- A plan: its head and its controllers' fields, then its tasks' and its paths'.
unfoldable pub plan : (controllers : ℕ) → (tasks paths : List Bytes) → Bytes
unfolding record_of bytes each flatten
plan controllers tasks paths =
    record_of 0x01 (1 ∷ controllers ∷ length tasks ∷ length paths ∷ [])
    ++ each controllers (λ c. record_of 0x10 (c ∷ 1 ∷ []))
    ++ flatten tasks
    ++ flatten paths

-- The outcome with an accepted report.
abbrev pub accepted : (sweeps : ℕ) → Bytes → Outcome
accepted sweeps report = record { answer = record { number = 0; place = length report; sweep = sweeps }; report = report }

-- The outcome with an accepted report, given by its tasks' records and its paths'.
unfoldable pub reported : (sweeps : ℕ) → (tasks paths : List Bytes) → Outcome
unfolding head_record task_record path_record record_of verdict difference bytes flatten
reported sweeps tasks paths =
    accepted sweeps (head_record sweeps (length tasks) (length paths) ++ flatten tasks ++ flatten paths)

-- A run: a plan and its outcome.
pub record Run : Type 0 where
  pub plan : Bytes
  pub outcome : Outcome

-- A plan gets an outcome.
abbrev pub ◌gets◌ : Bytes → Outcome → Run
s gets o = record { plan = s; outcome = o }

-- C's plan,
unfoldable pub C : Bytes
unfolding plan task_of
C = plan 1 (task_of 0 1 1 (every 2 0) ∷ task_of 0 2 1 (every 2 0) ∷ []) []

-- and its outcome.
unfoldable pub C_outcome : Outcome
unfolding reported
C_outcome = reported 2 (task_record 0 1 1 0 0 1 ∷ task_record 1 1 2 0 1 1 ∷ []) []

-- The starred runs. A task's record holds its number, R-, R+, input jitter, output jitter and jobs looked at; a path's its
-- number, deadline, best and worst. Document 01 leaves the priorities and I's deadlines open; here they are 1 and 2, and 20.
unfoldable pub table : List Run
unfolding C C_outcome plan task_of path_of reported
table =
    -- A: C 3, P 10. R+ 3, one job, one sweep.
    plan 1 (task_of 0 1 3 (every 10 0) ∷ []) [] gets reported 1 (task_record 0 3 3 0 0 1 ∷ []) []
    -- B: more urgent C 2, P 5; less urgent C 4, P 20. R+ 2 and 8.
    ∷ plan 1 (task_of 0 1 2 (every 5 0) ∷ task_of 0 2 4 (every 20 0) ∷ []) []
    gets reported 2 (task_record 0 2 2 0 0 1 ∷ task_record 1 4 8 0 4 1 ∷ []) []
    -- C: twice C 1, P 2. R+ 1 and 2; d(2) = B(1) ends the look.
    ∷ C gets C_outcome
    -- D: C 10, P 10: R+ 10.
    ∷ plan 1 (task_of 0 1 10 (every 10 0) ∷ []) [] gets reported 1 (task_record 0 10 10 0 0 1 ∷ []) []
    -- E: the same with J 1: refusal 13, place 0, sweep 1.
    ∷ plan 1 (task_of 0 1 10 (every 10 1) ∷ []) [] gets refusal 13 0 1
    -- F: C 11, P 10: refusal 12.
    ∷ plan 1 (task_of 0 1 11 (every 10 0) ∷ []) [] gets refusal 12 0 0
    -- G: C 1, P 1,000, J 1,022,976: 1,024 jobs, R+ 1,023.
    ∷ plan 1 (task_of 0 1 1 (every 1000 1_022_976) ∷ []) []
    gets reported 2 (task_record 0 1 1023 1_022_976 1_023_998 1024 ∷ []) []
    -- H: J one more: refusal 13.
    ∷ plan 1 (task_of 0 1 1 (every 1000 1_022_977) ∷ []) [] gets refusal 13 0 1
    -- I: two chains that cross. On controller 0: task 0 (less urgent) and task 3; on controller 1: task 2 (less urgent) and
    -- task 1. 0 feeds 1, 2 feeds 3. All C 4, P 10. R+ 12, 6, 12, 6 in four sweeps; each chain's worst is 18.
    ∷ plan 2
    (task_of 0 2 4 (every 10 0) ∷ task_of 1 1 4 (fed 0) ∷ task_of 1 2 4 (every 10 0) ∷ task_of 0 1 4 (fed 2) ∷ [])
    (path_of 20 (0 ∷ 1 ∷ []) ∷ path_of 20 (2 ∷ 3 ∷ []) ∷ [])
    gets reported 4
    (task_record 0 4 12 0 8 2 ∷ task_record 1 4 6 8 10 2 ∷ task_record 2 4 12 0 8 2 ∷ task_record 3 4 6 8 10 2 ∷ [])
    (path_record 0 20 8 18 ∷ path_record 1 20 8 18 ∷ [])
    -- J: document 001's tasks, deadline 90. Report, whole.
    ∷ J.plan 90 gets accepted 2 (J.printed 1 J.slack)
    -- J with deadline 62: slack 0, verdict 1.
    ∷ J.plan 62 gets accepted 2 (J.printed 1 (replicate 8 0x00))
    -- With 61: slack -1, verdict 2.
    ∷ J.plan 61 gets accepted 2 (J.printed 2 (replicate 8 0xFF))
    ∷ []

-- What the twin computes of a run's plan is what document 01 says of it, for every run of the table.
same : map (λ run. computed run.plan) table ≡ map (λ run. (passed, run.outcome)) table
unfolding table computed
same = refl

-- Where two functions are the same all along a list, they are at each of its members.
at_each : {A B : Type 0} (f g : A → B) (l : List A) → map f l ≡ map g l → (a : A) → Memᴰ a l → f a ≡ g a
at_each f g [] e a h = absurd (Memᴰ.not-nil h)
at_each f g (x ∷ l) e a h =
    let both = cons-eq-cons.0 e in
    elim (Memᴰ.cases_cons h) [ inl here ↦ rw here both.0 | inr later ↦ at_each f g l both.1 a later ]

-- So it is for each of them.
starred_computed : (run : Run) → Memᴰ run table → computed run.plan ≡ (passed, run.outcome)
starred_computed = at_each _ _ table same

-- The plan of every starred run is well-formed.
pub starred_well : (run : Run) → Memᴰ run table → WellFormed run.plan
starred_well run h = computed_well run.plan run.outcome (starred_computed run h)

-- For every starred run, with room enough for its report, the answer that is due and what the report space then holds are the
-- run's.
pub starred : (run : Run) → Memᴰ run table → (room : ℕ) → report_length (plan_of run.plan) ≤ room
    → Due run.plan room run.outcome.answer (space room run.outcome.report)
starred run h = computed_due run.plan run.outcome (starred_computed run h)
