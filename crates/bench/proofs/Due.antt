-- What is due, as the entry finds it.
use Rattle.std.proofs.Common.{ℕ, ◌≤◌, ◌≡◌, ◌-◌, ◌++◌, List, Ok}
use Rattle.paper.specs.Bytes.{Bytes}
use Rattle.paper.specs.Fields.{refused}
use Rattle.paper.specs.Tables.{plan_of}
use Rattle.paper.specs.Refusals.{WellFormed}
use Rattle.paper.specs.Load.{Overloaded}
use Rattle.paper.specs.Report.{Figures, report_length}
use Rattle.paper.specs.Answer as Answer
use Rattle.paper.specs.Answer.{Reported, Due, blank}
use Rattle.plan.specs.Tables.{tabulate}
use Rattle.rules.specs.Judges.{Judges, unread, unsound}
use Rattle.report.specs.Figured.{whole_of, long_of}
use Rattle.report.specs.declared.figures.TaskFigures.{TaskFigures}
use Rattle.report.specs.declared.figures.PathFigures.{PathFigures}
use Rattle.bench.specs.Answers.{Answers}
use Rattle.bench.specs.Rows.{task_figures, path_figures}
use Rattle.bench.proofs.Whole.{whole, whole_long}

-- A refusal by the judge is due.
pub refused_due : {s : Bytes} {room number place : ℕ} → Judges s (refused number place)
    → Due s room (record { number = number; place = place; sweep = 0 }) (blank room)
refused_due (unread e) = Answer.unread e
refused_due (unsound e f) = Answer.unsound e f

-- Accepting a plan is due, with the report of the rows that hold its figures, under the number of the sweep in which they settled.
pub accepted_due : {s : Bytes} {room long sweep : ℕ} {f : Figures} {tasks : List TaskFigures} {paths : List PathFigures}
    {out : Bytes} → WellFormed s → report_length (plan_of s) ≤ room
    → ((controller : ℕ) → Overloaded (plan_of s) controller → ⊥) → Reported (plan_of s) f
    → long ≡ report_length (plan_of s) → sweep ≡ f.sweeps
    → tasks ≡ tabulate (plan_of s).tasks (task_figures (plan_of s) f)
    → paths ≡ tabulate (plan_of s).paths (path_figures (plan_of s) f)
    → out ≡ whole_of sweep tasks paths ++ blank (room - long_of tasks paths)
    → Answers s room (Ok (record { length = long; sweep = sweep })) out
accepted_due {s} {f = f} well enough light reported long sweep tasks paths written =
    rw (written, long, sweep, tasks, paths, whole (plan_of s) f, whole_long (plan_of s) f)
    (record { due = Answer.accepted well enough light reported })
