-- `inputs` makes a place for each task's input stream, and fills them all.
use Rattle.std.proofs.Common.{◌∙◌, sym, ap, subst, List, length, arith}
use Rattle.paper.specs.Tables.{Plan}
use Rattle.paper.specs.Sets.{inputs}
use Rattle.plan.specs.Tables.{tabulate}
use Rattle.plan.proofs.Rows.{tabulated}
use Rattle.stream.specs.declared.model.EventModel.{EventModel}
use Rattle.sweep.specs.Rows.{stream_row, no_stream, bounds_of}
use Rattle.sweep.specs.Planned.{Bounding, Filled}
use Rattle.sweep.proofs.Rows.{counted, room}
use Rattle.sweep.proofs.Filling.{filling_none, handed_back, stand_more, filled_all}
use Rattle.sweep.proofs.chains.inputs.Goals as goal

-- At first there is no place.
pub loop-init : goal.loop-init
unfolding tabulate
loop-init c =
    let (p, so) = c.requires in
    record { room = room so.planned; count = ap length c.new-streams.ensures; none = c.new-streams.ensures }

-- The next place is put last, with no stream in it.
pub loop-preserved : goal.loop-preserved
loop-preserved c =
    let so_far = c.loop.invariant in
    record {
      room = so_far.room;
      count = omega (arith, c.push.ensures.len, so_far.count);
      none = c.push.ensures.items ∙ tabulated (stream_row (λ k. no_stream)) so_far.none
          (λ i. record { period = record { 0 = c.default.ensures.0 i }; jitter = record { 0 = c.default.ensures.1 i } });
    }

-- Then there is a place for each task.
pub loop-k-init : goal.loop-k-init
loop-k-init c =
    record {
      filling = λ p so. filling_none (omega (arith, counted so.planned)) c.loop.invariant.none;
      stand = λ p so j none. absurd (omega arith);
    }

-- The next task is one of the plan's.
pub fill-requires : goal.fill-requires
fill-requires c =
    let (p, so) = c.requires in
    (p, so, rw c.deref_mut.ensures.value (c.loop-k.invariant.filling p so), omega (arith, counted so.planned))

-- Its place is filled.
pub loop-k-preserved : goal.loop-k-preserved
loop-k-preserved c =
    let so_far = c.loop-k.invariant in
    let lent : (p : Plan) → Bounding p c.args.tasks.now c.args.set.now
    → Filled p (inputs p (bounds_of c.args.set.now)) c.loop-k.k c.loop-k.streams.items c.fill.new.streams =
    λ p so.
    subst (λ (rows : List EventModel). Filled p (inputs p (bounds_of c.args.set.now)) c.loop-k.k rows c.fill.new.streams)
    c.deref_mut.ensures.value
    (c.fill.ensures p so (rw c.deref_mut.ensures.value (so_far.filling p so)) (omega (arith, counted so.planned))) in
    record {
      filling = λ p so.
          let filled = lent p so in
          rw (handed_back _ _ (filled.filling.count ∙ sym (so_far.filling p so).count)) filled.filling;
      stand = λ p so.
          let filled = lent p so in
          rw (handed_back _ _ (filled.filling.count ∙ sym (so_far.filling p so).count)) (stand_more (so_far.stand p so) filled);
    }

-- At the end all are.
pub returns : goal.returns
returns c p so =
    filled_all (c.loop-k.invariant.filling p so)
    (λ k h. c.loop-k.invariant.stand p so k (omega (arith, counted so.planned)))
