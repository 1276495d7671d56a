-- `task_figures` takes a task more each time.
use Rattle.std.proofs.Common.{◌<◌, ◌≡◌, ◌∙◌, ap, length, length-append, arith}
use Rattle.std.proofs.lemmas.Slice.Zip.{zip_turn, zip_end}
use Rattle.paper.specs.Streams.{delayed}
use Rattle.paper.specs.Tables.{Plan}
use Rattle.paper.specs.Windows.{output}
use Rattle.paper.specs.Report.{Figures}
use Rattle.plan.specs.Tables.{tabulate, row_of, blank}
use Rattle.plan.specs.declared.tasks.Task.{Task}
use Rattle.plan.proofs.Rows.{length_tabulate, tabulated}
use Rattle.sweep.specs.declared.once.Figure.{Figure}
use Rattle.sweep.specs.Ends.{figure_of}
use Rattle.sweep.proofs.Rows.{counted, room, row_is}
use Rattle.bench.specs.Rows.{task_figures}
use Rattle.bench.specs.Tabled.{Settling}
use Rattle.bench.proofs.Settled.{bound_most, input_most, settled_counted, settled_is}
use Rattle.bench.proofs.figures.task_figures.Goals as goal
use Rattle.bench.proofs.figures.task_figures.Goals.{In-Some}

-- At first there is none.
pub loop-task-init : goal.loop-task-init
unfolding tabulate
loop-task-init c = λ p f so. c.new-rows.ensures

-- Each turn takes a task of the plan, by its row and its figures.
turn : (c : goal.In-Some) (p : Plan) (f : Figures) → Settling p f c.args.tasks.now c.args.settled.now
    → (length c.loop-task.yielded < p.tasks)
    × (c.in-Some.task.now ≡ row_of (p.task (length c.loop-task.yielded)))
    × (c.in-Some.figure.now ≡ figure_of p f (length c.loop-task.yielded))
turn c p f so =
    let k = length c.loop-task.yielded in
    let next = zip_turn c.args.tasks.now c.args.settled.now c.loop-task.yielded c.into_iter-task-iterator.result
    c.loop-task.task-iterator c.next.new.self c.next.result
    (rw (c.into_iter-task-iterator.ensures.into_iter_gives, c.zip-task-items.ensures.first) c.iter.ensures.rest)
    (rw c.into_iter-task-iterator.ensures.into_iter_gives c.zip-task-items.ensures.second.0)
    c.loop-task.yielded_by (c.in-Some.task, c.in-Some.figure) c.in-Some.is c.next.ensures.steps in
    let h : k < p.tasks = omega (arith, counted so.planned, next.0) in
    let figure = figure_of p f 0 in
    (h, next.2 blank ∙ row_is so.planned k blank h, next.3 figure ∙ settled_is so k figure h)

-- The next task's bound and jitter are within limits.
pub figures_of-requires : goal.figures_of-requires
figures_of-requires c =
    let (p, f, so) = c.requires in
    let (h, task, figure) = turn (goal.at.figures_of-requires c).In-Some p f so in
    rw figure (omega (arith, bound_most so.planned.sound so.reported _ h, input_most so.reported _ h))

-- There is room for a row more.
pub push-requires : goal.push-requires
push-requires c =
    let (p, f, so) = c.requires in
    let (h, task, figure) = turn (goal.at.push-requires c).In-Some p f so in
    let long : length c.loop-task.rows.items ≡ length c.loop-task.yielded =
    ap length (c.loop-task.invariant p f so) ∙ length_tabulate _ _ in
    (omega arith, omega (arith, h, counted so.planned, room so.planned, long))

-- The next task's figures are put last.
pub loop-task-preserved : goal.loop-task-preserved
unfolding output delayed
loop-task-preserved c =
    λ p f so.
    let own = c.figures_of.ensures in
    let (h, task, settled) = turn (goal.at.loop-task-preserved c).In-Some p f so in
    rw length-append
    (c.push.ensures.items
    ∙ tabulated (task_figures p f) (c.loop-task.invariant p f so)
    (λ i. record {
      least = (own.given.0 ∙ ap (λ (t : Task). t.least) task) i;
      bound = (own.given.1 ∙ ap (λ (r : Figure). r.bound) settled) i;
      input = (own.jitters.0 ∙ ap (λ (r : Figure). r.input.jitter) settled) i;
      output = record { 0 = (rw (task, settled) at own.jitters.1) i };
      jobs = (own.given.2 ∙ ap (λ (r : Figure). r.jobs) settled) i;
    }))

-- At the end every task has its own.
pub returns : goal.returns
returns c =
    λ p f so.
    let end = zip_end c.args.tasks.now c.args.settled.now c.loop-task.yielded c.into_iter-task-iterator.result
    c.loop-task.task-iterator c.next.new.self c.next.result
    (rw (c.into_iter-task-iterator.ensures.into_iter_gives, c.zip-task-items.ensures.first) c.iter.ensures.rest)
    (rw c.into_iter-task-iterator.ensures.into_iter_gives c.zip-task-items.ensures.second.0)
    c.loop-task.yielded_by c.in-None.is c.next.ensures.steps in
    let done : length c.loop-task.yielded ≡ p.tasks = omega (arith, end, counted so.planned, settled_counted so) in
    rw done at (c.loop-task.invariant p f so)
