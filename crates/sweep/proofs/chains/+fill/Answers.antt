-- `fill` puts a task's input stream in its place: that of its events, or its feeder's, delayed.
use Rattle.std.proofs.Common.{◌<◌, ◌∙◌, sym, ap, length, arith}
use Rattle.paper.specs.Limits.{most_tasks}
use Rattle.paper.specs.Streams.{Stream, delayed}
use Rattle.stream.specs.Model.{model_of}
use Rattle.stream.specs.declared.model.EventModel.{EventModel}
use Rattle.sweep.specs.Rows.{holding, bounds_of}
use Rattle.sweep.proofs.Rows.{counted, fed_counted, starts}
use Rattle.sweep.proofs.Back.{depth_nearer}
use Rattle.sweep.proofs.Jitter.{stream_outside}
use Rattle.sweep.proofs.Delays.{feeder_within, delayed_is, delay_fits}
use Rattle.sweep.proofs.Filling.{filled_put}
use Rattle.sweep.proofs.chains.+fill.Goals as goal
use Rattle.sweep.proofs.chains.+fill.Goals.{In-Fed}

-- The task has a row,
pub bounds : goal.bounds
bounds t c =
    let (p, so, filling, h) = c.requires in
    omega (arith, counted so.planned)

-- also where its feeder is read from it.
pub bounds-tasks : goal.bounds-tasks
bounds-tasks t c =
    let (p, so, filling, h) = c.requires in
    omega (arith, counted so.planned)

-- The feeder is a task of the plan, and nearer to the chain's start.
pub fill-requires : goal.fill-requires
fill-requires t c =
    let (p, so, filling, h) = c.requires in
    (omega (arith, depth_nearer so.planned _ _ h c.in-Fed.is, c.decreases), (p, so, filling, fed_counted so.planned _ _ h c.in-Fed.is))

-- The feeder has a row and a bound.
feeder : (t : _) (c : In-Fed t) → (c.in-Fed.feeder.0 < length c.args.tasks.now) × (c.in-Fed.feeder.0 < length c.args.set.now)
    × (c.in-Fed.feeder.0 < most_tasks)
feeder t c =
    let (p, so, filling, h) = c.requires in
    feeder_within so h _ c.in-Fed.is

-- Its bound is read,
pub offset_bounds-set-feeder : goal.offset_bounds-set-feeder
offset_bounds-set-feeder t c = omega (arith, feeder t (goal.at.offset_bounds-set-feeder t c).In-Fed)

-- where it has one,
pub bounds-set-feeder : goal.bounds-set-feeder
bounds-set-feeder t c = omega (arith, feeder t (goal.at.bounds-set-feeder t c).In-Fed)

-- and its row,
pub offset_bounds-tasks-feeder : goal.offset_bounds-tasks-feeder
offset_bounds-tasks-feeder t c = omega (arith, feeder t (goal.at.offset_bounds-tasks-feeder t c).In-Fed)

-- where it has one,
pub bounds-tasks-feeder : goal.bounds-tasks-feeder
bounds-tasks-feeder t c = omega (arith, feeder t (goal.at.bounds-tasks-feeder t c).In-Fed)

-- and its stream,
pub offset_bounds-streams-feeder : goal.offset_bounds-streams-feeder
offset_bounds-streams-feeder t c = omega (arith, feeder t (goal.at.offset_bounds-streams-feeder t c).In-Fed)

-- from its place.
pub slice_copy_out-delayed : goal.slice_copy_out-delayed
slice_copy_out-delayed t c =
    let (p, so, filling, h) = c.requires in
    let f = fed_counted so.planned _ _ h c.in-Fed.is in
    omega (arith, f, (c.fill.ensures p so filling f).filling.count)

-- The delay that the feeder adds fits.
pub delayed-requires : goal.delayed-requires
delayed-requires t c =
    let (p, so, filling, h) = c.requires in
    let f = fed_counted so.planned _ _ h c.in-Fed.is in
    let before = c.fill.ensures p so filling f in
    let own = before.filling.own _ f before.stands in
    omega (arith, ap (λ (M : EventModel). M.jitter.0) own, delay_fits so h _ c.in-Fed.is _ c.minus-delay.ensures)

-- The input stream at the chain's start is that of its events,
pub returns-in-Outside : goal.returns-in-Outside
returns-in-Outside t c p so filling h =
    let start = stream_outside so.planned.sound (bounds_of c.args.set.now) _ _ h (starts so.planned _ _ h c.in-Outside.is) in
    filled_put _ _ so h filling (λ j stands. stands) (ap (λ (M : Stream). holding M) (sym start))

-- and a fed task's is its feeder's, delayed.
pub returns-in-Fed : goal.returns-in-Fed
returns-in-Fed t c p so filling h =
    let f = fed_counted so.planned _ _ h c.in-Fed.is in
    let before = c.fill.ensures p so filling f in
    let own = before.filling.own _ f before.stands in
    let input =
    c.delayed.ensures
    ∙ ap (λ (M : EventModel). delayed (model_of M) c.minus-delay.result.0) own
    ∙ delayed_is so h _ c.in-Fed.is _ c.minus-delay.ensures in
    filled_put _ _ so h before.filling before.kept (ap (λ (M : Stream). holding M) input)
