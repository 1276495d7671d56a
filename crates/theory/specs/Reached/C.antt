-- Starred run C, run tick by tick: both its tasks take as long as their R+ in the report says, 1 tick and 2.
use Rattle.std.specs.Prelude.{ℕ, zero, suc, ◌≤◌, ◌<◌, refl}
use mathlib.Core.List.{Memᴰ}
use Rattle.std.proofs.Common.{le_refl, arith}
use Rattle.paper.specs.Bytes.{Bytes, number}
use Rattle.paper.specs.Fields.{ending, place}
use Rattle.paper.specs.Tables.{stream_at, source_at, task_at, plan_of}
use Rattle.paper.specs.Streams.{rounded_up, most_events}
use Rattle.paper.specs.Running.{Run, RunOf}
use Rattle.paper.specs.Report.{report_length}
use Rattle.paper.specs.Places.{R+_in}
use Rattle.paper.specs.Answer.{Answer, Due}
use Rattle.theory.specs.Plans.Sound.{Sound}
use Rattle.theory.specs.Plans.WellFormed.{well_formed→sound}
use Rattle.theory.specs.Runs.Dense.{dense, dense_run}
use Rattle.theory.specs.Twin.Answer.{space}
use Rattle.theory.specs.Starred.{◌gets◌, C, C_outcome, table, starred, starred_well}
use Rattle.theory.specs.Reached.{Takes, Reaches, reached_in, takes, job}

-- C is a starred run,
C_starred : Memᴰ (C gets C_outcome) table
unfolding table
C_starred = Memᴰ.tail (Memᴰ.tail (Memᴰ.head refl))

-- so its plan is sound.
C_sound : Sound (plan_of C)
C_sound = well_formed→sound C (starred_well (C gets C_outcome) C_starred)

-- Both tasks are activated at tick 0, and every job costs C+.
abbrev pub both_at_once : Run
both_at_once = dense (plan_of C) 3 (λ k m. ((plan_of C).task k).C+)

-- That is a run of C's plan.
pub both_run : RunOf (plan_of C) both_at_once
both_run = dense_run C_sound 3 _ (λ k m h. (C_sound.costs k h, le_refl _))

-- In it the figures of C's report are reached: the first job of task 0 takes 1 tick, and that of task 1 takes 2.
both_reach : (room : ℕ) → Reaches (plan_of C) both_at_once (space room C_outcome.report)
unfolding C C_outcome takes plan_of task_at source_at stream_at place ending number most_events rounded_up
both_reach room = record { run = both_run; tasks = tasks; paths = λ q h. absurd (omega arith) }
  where
    tasks : (k : ℕ) → k < (plan_of C).tasks → Takes (plan_of C) both_at_once k (R+_in (space room C_outcome.report) k)
    tasks zero h = job (plan_of C) both_at_once 0 0 0 1 refl
    tasks (suc zero) h = job (plan_of C) both_at_once 1 0 0 2 refl
    tasks (suc (suc k)) h = absurd (omega arith)

-- Whatever answer is due for C, with room enough, and whatever the report space then holds: the figures that stand there are
-- reached.
pub C_reached : {room : ℕ} {a : Answer} {out : Bytes} → report_length (plan_of C) ≤ room → Due C room a out
    → Reaches (plan_of C) both_at_once out
C_reached {room} enough due = reached_in C_outcome (starred (C gets C_outcome) C_starred room enough) (both_reach room) due
