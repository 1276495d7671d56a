-- `report_of` takes the refusals that are left in their order, and then writes the report.
use Rattle.std.proofs.Common.{◌≡◌, ◌∙◌}
use Rattle.std.proofs.lemmas.Result.{err_from_is_err_and}
use Rattle.paper.specs.Answer as Answer
use Rattle.theory.specs.Promise.{no_bound}
use Rattle.bench.specs.declared.answers.Refusal.TheVariants.{Overloaded, Unbounded}
use Rattle.bench.proofs.Due.{accepted_due}
use Rattle.bench.proofs.Tabling.{few, planned, timed, settling, pathed, report_room, long}
use Rattle.bench.proofs.entry.report_of.Goals as goal

-- The rows are few enough to count the report's bytes.
pub length_of-length-requires : goal.length_of-length-requires
length_of-length-requires c = few c.requires

-- Where the space is too short, 11 is due.
pub returns-then-report-length : goal.returns-then-report-length
returns-then-report-length c =
    let is = c.length_of-length.ensures ∙ long c.requires in
    rw is (record { due = Answer.short c.requires.well (rw is at c.if-report-length.true) })

-- The rows are those of a plan whose periods can be worked out,
pub periods-periods-requires : goal.periods-periods-requires
periods-periods-requires c = (_, planned c.requires)

-- whose loads can be looked at,
pub weigh-requires : goal.weigh-requires
weigh-requires c =
    (c.requires.well, timed c.requires c.deref.ensures.0 (c.periods-periods.ensures _ (planned c.requires)))

-- Where a load is above one, 12 is due.
pub returns-in_err-weigh : goal.returns-in_err-weigh
returns-in_err-weigh c =
    let is = c.length_of-length.ensures ∙ long c.requires in
    let (controller, refusal, lowest) = c.in_err-weigh.ensures in
    let last = err_from_is_err_and c.from_residual.result c.from_residual.ensures.1 in
    let over : last.0 ≡ Overloaded controller = last.2 ∙ refusal in
    rw (last.1, over) (record { due = Answer.overload c.requires.well (rw is at c.if-report-length.false) lowest })

-- and over which the sweeps can go.
pub settle-requires : goal.settle-requires
settle-requires c = (_, planned c.requires)

-- Where a task leaves the limits, 13 is due.
pub returns-in_err-sweep : goal.returns-in_err-sweep
returns-in_err-sweep c =
    let is = c.length_of-length.ensures ∙ long c.requires in
    let gone = c.in_err-sweep.ensures _ (planned c.requires) in
    let none = (no_bound c.requires.well).0 (_, _, gone.leaving) in
    let last = err_from_is_err_and c.from_residual-in_err-sweep.result c.from_residual-in_err-sweep.ensures.1 in
    let left : last.0 ≡ Unbounded c.in_err-sweep.field-0.0 = last.2 in
    rw (last.1, left)
    (record { due = Answer.unbounded c.requires.well (rw is at c.if-report-length.false) c.in_ok-weigh.ensures none gone.leaving })

-- Where the sweeps settle, the tasks have figures,
pub task_figures-figures-requires : goal.task_figures-figures-requires
task_figures-figures-requires c =
    let settled = c.in_ok-sweep.ensures _ (planned c.requires) in
    (_, settled.figures, settling c.requires settled c.deref-2.ensures.0)

-- and so have the paths,
pub path_figures-times-requires : goal.path_figures-times-requires
path_figures-times-requires c =
    let settled = c.in_ok-sweep.ensures _ (planned c.requires) in
    let figures = c.task_figures-figures.ensures _ settled.figures (settling c.requires settled c.deref-2.ensures.0) in
    (settled.figures, pathed c.requires settled (c.deref-3.ensures.0 ∙ figures))

-- the report of which has room
pub write-requires : goal.write-requires
write-requires c =
    let is = c.length_of-length.ensures ∙ long c.requires in
    let settled = c.in_ok-sweep.ensures _ (planned c.requires) in
    let figures = c.task_figures-figures.ensures _ settled.figures (settling c.requires settled c.deref-2.ensures.0) in
    let times = c.path_figures-times.ensures settled.figures (pathed c.requires settled (c.deref-3.ensures.0 ∙ figures)) in
    report_room c.requires.well settled.figures (rw is at c.if-report-length.false) (c.deref-4.ensures.0 ∙ figures)
    (c.deref-5.ensures.0 ∙ times)

-- and is the plan's.
pub returns : goal.returns
returns c =
    let is = c.length_of-length.ensures ∙ long c.requires in
    let settled = c.in_ok-sweep.ensures _ (planned c.requires) in
    let figures = c.task_figures-figures.ensures _ settled.figures (settling c.requires settled c.deref-2.ensures.0) in
    let times = c.path_figures-times.ensures settled.figures (pathed c.requires settled (c.deref-3.ensures.0 ∙ figures)) in
    accepted_due c.requires.well (rw is at c.if-report-length.false) c.in_ok-weigh.ensures settled.reported is settled.sweep
    (c.deref-4.ensures.0 ∙ figures) (c.deref-5.ensures.0 ∙ times) c.write.ensures
