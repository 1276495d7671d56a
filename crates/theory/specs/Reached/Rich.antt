-- A richer plan, run tick by tick: each of its four tasks takes as long as its R+ in the report says, and an event on its path
-- as long as the path's worst, all in one run.
use Rattle.std.specs.Prelude.{ℕ, zero, suc, ◌+◌, ◌≤◌, ◌<◌, ◌≡◌, refl, [], ◌∷◌, get_or}
use Rattle.std.proofs.Common.{le_refl, arith}
use Rattle.paper.specs.Words.{count}
use Rattle.paper.specs.Bytes.{Bytes, number}
use Rattle.paper.specs.Fields.{passed, ending, place}
use Rattle.paper.specs.Tables.{Source, outside, fed, stream_at, source_at, task_at, part_at, plan_of}
use Rattle.paper.specs.Streams.{d}
use Rattle.paper.specs.Running.{Run, RunOf}
use Rattle.paper.specs.Report.{task_record, path_record, report_length}
use Rattle.paper.specs.Places.{R+_in, worst_in}
use Rattle.paper.specs.Answer.{Answer, Due}
use Rattle.theory.specs.Plans.Sound.{Sound}
use Rattle.theory.specs.Plans.WellFormed.{well_formed→sound}
use Rattle.theory.specs.Streams.Counting.{d_grows, d_on_grid}
use Rattle.theory.specs.Runs.Grid.{events_at, grid_run}
use Rattle.theory.specs.Twin.Answer.{Outcome, space}
use Rattle.theory.specs.Twin.Computed.{computed, computed_well, computed_due}
use Rattle.theory.specs.Starred.{every, task_between, path_of, plan, reported}
use Rattle.theory.specs.Reached.{Takes, PathTakes, Reaches, reached_in, takes, job, event}

-- The plan. Controller 0 has three tasks, their priorities out of number order; the least urgent, task 0, is fed by task 3 on
-- controller 1, and the jitter of the most urgent, task 1, is above its period. C- is below C+. The path leads from task 3 to
-- task 0.
unfoldable pub rich : Bytes
unfolding plan task_between path_of
rich =
    plan 2
    (task_between 0 3 1 4 (fed 3)
    ∷ task_between 0 1 1 2 (every 10 15)
    ∷ task_between 0 2 1 3 (every 20 0)
    ∷ task_between 1 1 2 5 (every 40 0)
    ∷ [])
    (path_of 18 (3 ∷ 0 ∷ []) ∷ [])

-- Its outcome: R+ 13, 4, 9 and 5; the path's worst is 18.
unfoldable pub rich_outcome : Outcome
unfolding reported
rich_outcome =
    reported 2
    (task_record 0 1 13 3 15 1 ∷ task_record 1 1 4 15 18 2 ∷ task_record 2 1 9 0 8 1 ∷ task_record 3 2 5 0 3 1 ∷ [])
    (path_record 0 18 3 18 ∷ [])

-- That is what the twin computes,
rich_computed : computed rich ≡ (passed, rich_outcome)
unfolding computed rich rich_outcome
rich_computed = refl

-- so the plan is sound.
rich_sound : Sound (plan_of rich)
rich_sound = well_formed→sound rich (computed_well rich rich_outcome rich_computed)

-- On which tick event m of a source falls, as dense as its model says from a tick on. A task that is fed has no events of its
-- own.
abbrev densely : (from : ℕ) → Source → (m : ℕ) → ℕ
densely from (outside M) m = from + d M (suc m)
densely from (fed j) m = from

-- From which tick on: tick 0 for task 3, and tick 5, when its first job finishes, for the others.
abbrev from : ℕ → ℕ
from k = get_or (5 ∷ 5 ∷ 5 ∷ 0 ∷ []) k 0

-- On which tick event m of task k falls: those of task 1 on 5, 5, 10 and 20, the first of task 2 on 5, the first of task 3 on 0.
abbrev at : (k m : ℕ) → ℕ
at k = densely (from k) ((plan_of rich).task k).source

-- A run of 20 ticks. Every task from outside has four such events, some past the end of the run, and every job costs C+.
abbrev pub all_at_five : Run
all_at_five = record { ticks = 20; events = λ k. events_at 4 (at k); cost = λ k m. ((plan_of rich).task k).C+ }

-- Such events fall on their ticks in order.
in_order : (from : ℕ) (source : Source) (m : ℕ) → densely from source m ≤ densely from source (suc m)
in_order from (outside M) m = omega (arith, d_grows M (suc m) (suc (suc m)) (omega arith))
in_order from (fed j) m = le_refl _

-- That is a run of the plan.
pub five_run : RunOf (plan_of rich) all_at_five
five_run =
    grid_run (plan_of rich) 20 (λ k. 4) from at _ (λ k m h. in_order (from k) ((plan_of rich).task k).source m)
    (λ k M m h e l. rw e (omega (arith, d_on_grid M m)))
    (λ k m h. (rich_sound.costs k h, le_refl _))

-- In it the figures of the report are reached. Task 3's first job is activated at tick 0 and finishes at 5. At tick 5 there are
-- activated: the first two jobs of task 1, of which the second finishes at 9; the first of task 2, which finishes at 14; and
-- the first of task 0, which finishes at 18.
five_reach : (room : ℕ) → Reaches (plan_of rich) all_at_five (space room rich_outcome.report)
unfolding rich rich_outcome takes plan_of task_at source_at stream_at part_at place ending number events_at count d
five_reach room = record { run = five_run; tasks = tasks; paths = paths }
  where
    tasks : (k : ℕ) → k < (plan_of rich).tasks → Takes (plan_of rich) all_at_five k (R+_in (space room rich_outcome.report) k)
    tasks zero h = job (plan_of rich) all_at_five 0 0 5 13 refl
    tasks (suc zero) h = job (plan_of rich) all_at_five 1 1 5 4 refl
    tasks (suc (suc zero)) h = job (plan_of rich) all_at_five 2 0 5 9 refl
    tasks (suc (suc (suc zero))) h = job (plan_of rich) all_at_five 3 0 0 5 refl
    tasks (suc (suc (suc (suc k)))) h = absurd (omega arith)

    paths : (q : ℕ) → q < (plan_of rich).paths
        → PathTakes (plan_of rich) all_at_five q (worst_in (space room rich_outcome.report) (plan_of rich).tasks q)
    paths zero h = event (plan_of rich) all_at_five 0 0 0 18 refl
    paths (suc q) h = absurd (omega arith)

-- Whatever answer is due for the plan, with room enough, and whatever the report space then holds: the figures that stand there
-- are reached, every task's R+ and the path's worst.
pub rich_reached : {room : ℕ} {a : Answer} {out : Bytes} → report_length (plan_of rich) ≤ room → Due rich room a out
    → Reaches (plan_of rich) all_at_five out
rich_reached {room} enough due =
    reached_in rich_outcome (computed_due rich rich_outcome rich_computed room enough) (five_reach room) due
