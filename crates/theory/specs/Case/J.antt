-- Case J of document 01's "Runs on the test bench": the definitions of reading, tables and report, tried by computing.
use Rattle.std.specs.Prelude.{ℕ, ◌≡◌, refl, [], ◌∷◌, get_or}
use Rattle.paper.specs.Bytes.{Bytes, number, bytes, difference}
use Rattle.paper.specs.Fields.{passed, ◌and_then◌, unless, in_ranges, header, field, ending, place, due_field, fields}
use Rattle.paper.specs.Fields.{head_field, controller_field, task_values, outside_field, fed_field, task_field, path_field}
use Rattle.paper.specs.Tables.{outside, fed, stream_at, source_at, task_at, part_at, plan_of}
use Rattle.paper.specs.Refusals.{read}
use Rattle.paper.specs.Streams.{delayed}
use Rattle.paper.specs.Windows.{output}
use Rattle.paper.specs.Sets.{stream_of, inputs_back, inputs}
use Rattle.paper.specs.Report.{Figures, record_of, head_record, task_record, verdict, path_record, along, each}
use Rattle.paper.specs.Report.{task_report, path_report, report}

-- J's plan, byte by byte, with a deadline of one byte; the paper prints it with deadline 90.
abbrev pub plan : ℕ → Bytes
plan deadline =
    0x01 ∷ 0x00 ∷ 0x04 ∷ 0x01 ∷ 0x01 ∷ 0x02 ∷ 0x01
    ∷ 0x10 ∷ 0x00 ∷ 0x02 ∷ 0x00 ∷ 0x01
    ∷ 0x20 ∷ 0x00 ∷ 0x12 ∷ 0x00 ∷ 0x01 ∷ 0x00 ∷ 0x00 ∷ 0x00 ∷ 0x05 ∷ 0x00 ∷ 0x00 ∷ 0x00 ∷ 0x05
    ∷ 0x00 ∷ 0x00 ∷ 0x00 ∷ 0x1E ∷ 0x00 ∷ 0x00 ∷ 0x00 ∷ 0x3C
    ∷ 0x21 ∷ 0x00 ∷ 0x0B ∷ 0x00 ∷ 0x02 ∷ 0x00 ∷ 0x00 ∷ 0x00 ∷ 0x01 ∷ 0x00 ∷ 0x00 ∷ 0x00 ∷ 0x09 ∷ 0x00
    ∷ 0x30 ∷ 0x00 ∷ 0x06 ∷ 0x00 ∷ 0x00 ∷ 0x00 ∷ deadline ∷ 0x00 ∷ 0x01 ∷ []

-- J's report, byte by byte, with its path's verdict and slack; the paper prints it with verdict 1 and slack 28.
abbrev pub printed : (verdict : ℕ) → (slack : Bytes) → Bytes
printed verdict slack =
    0x81 ∷ 0x00 ∷ 0x0B ∷ 0x01 ∷ 0x00 ∷ 0x00 ∷ 0x00 ∷ 0x00 ∷ 0x00 ∷ 0x00 ∷ 0x00 ∷ 0x02 ∷ 0x02 ∷ 0x01
    ∷ 0x90 ∷ 0x00 ∷ 0x13 ∷ 0x00 ∷ 0x00 ∷ 0x00 ∷ 0x00 ∷ 0x05 ∷ 0x00 ∷ 0x00 ∷ 0x00 ∷ 0x0F
    ∷ 0x00 ∷ 0x00 ∷ 0x00 ∷ 0x3C ∷ 0x00 ∷ 0x00 ∷ 0x00 ∷ 0x46 ∷ 0x00 ∷ 0x03
    ∷ 0x90 ∷ 0x00 ∷ 0x13 ∷ 0x01 ∷ 0x00 ∷ 0x00 ∷ 0x00 ∷ 0x01 ∷ 0x00 ∷ 0x00 ∷ 0x00 ∷ 0x2F
    ∷ 0x00 ∷ 0x00 ∷ 0x00 ∷ 0x46 ∷ 0x00 ∷ 0x00 ∷ 0x00 ∷ 0x74 ∷ 0x00 ∷ 0x05
    ∷ 0xA0 ∷ 0x00 ∷ 0x1A ∷ 0x00 ∷ verdict ∷ 0x00 ∷ 0x00 ∷ 0x00 ∷ 0x00 ∷ 0x00 ∷ 0x00 ∷ 0x00 ∷ 0x06
    ∷ 0x00 ∷ 0x00 ∷ 0x00 ∷ 0x00 ∷ 0x00 ∷ 0x00 ∷ 0x00 ∷ 0x3E ∷ slack

-- The slack that the paper prints, 28.
abbrev pub slack : Bytes
slack = 0x00 ∷ 0x00 ∷ 0x00 ∷ 0x00 ∷ 0x00 ∷ 0x00 ∷ 0x00 ∷ 0x1C ∷ []

-- J's figures: two sweeps, R+ 15 and 47, three and five jobs looked at.
abbrev figures : Figures
figures = record { sweeps = 2; R = λ k. get_or (15 ∷ 47 ∷ []) k 0; jobs = λ k. get_or (3 ∷ 5 ∷ []) k 0 }

-- J's plan reads.
pub reads : read (plan 90) ≡ passed
unfolding read ◌and_then◌ unless in_ranges header field ending place due_field fields number
    head_field controller_field task_values outside_field fed_field task_field path_field
reads = refl

-- It has one controller, two tasks and a path.
pub counts : ((plan_of (plan 90)).controllers ≡ 1) × ((plan_of (plan 90)).tasks ≡ 2) × ((plan_of (plan 90)).paths ≡ 1)
unfolding plan_of number
counts = (refl, refl, refl)

-- Its first task: C 5, fed from outside with P 30 and J 60.
pub first : (plan_of (plan 90)).task 0 ≡ record { controller = 0; priority = 1; C- = 5; C+ = 5; source = outside (record { P = 30; J = 60 }) }
unfolding plan_of task_at source_at stream_at place ending number
first = refl

-- Its second task: C- 1, C+ 9, less urgent and fed by the first.
pub second : (plan_of (plan 90)).task 1 ≡ record { controller = 0; priority = 2; C- = 1; C+ = 9; source = fed 0 }
unfolding plan_of task_at source_at stream_at place ending number
second = refl

-- Its path's deadline, and the path: the first task, then the second.
pub path : ((plan_of (plan 90)).deadline 0 ≡ 90) × ((plan_of (plan 90)).path 0 ≡ 0 ∷ 1 ∷ [])
unfolding plan_of part_at place ending number
path = (refl, refl)

-- Its report is the one printed.
pub reported : report (plan_of (plan 90)) figures ≡ printed 1 slack
unfolding report each task_report path_report head_record task_record path_record record_of verdict along difference bytes
    inputs inputs_back stream_of output delayed plan_of task_at source_at stream_at part_at place ending number
reported = refl
