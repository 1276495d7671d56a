-- `settle` sweeps until a sweep changes nothing or a task leaves the limits.
use Rattle.std.proofs.Common.{◌+◌, ◌∙◌, sym, arith}
use Rattle.paper.specs.Tables.{Plan}
use Rattle.sweep.specs.Planned.{Planned}
use Rattle.sweep.proofs.Rows.{counted, copied}
use Rattle.sweep.proofs.Turn.{SoFar, so_far_start, so_far_few, turn_leaves, turn_next, turn_settled}
use Rattle.sweep.proofs.all.settle.Goals as goal
use Rattle.sweep.proofs.all.settle.Goals.{Else-same}

-- The sweeps start with R+ = C+ for all.
pub loop-left-init : goal.loop-left-init
loop-left-init c p so = so_far_start so (c.start-set.ensures p so)

-- Where a task leaves the limits, the sweep is the first in which one does, and the task the lowest; no figures are left.
pub returns-in-Err : goal.returns-in-Err
returns-in-Err c p so =
    let far : SoFar p c.args.tasks.now c.deref.result.now c.loop-left.sweeps =
    rw c.deref.ensures.0 (c.loop-left.invariant p so) in
    let (lowest, number) = c.in-Err.ensures p far.bounding in
    record { leaving = rw number (turn_leaves far lowest); rows = c.clear.ensures }

-- Where a sweep changes nothing, the sweeps settle.
pub returns-then-same : goal.returns-then-same
returns-then-same c p so =
    let far : SoFar p c.args.tasks.now c.deref.result.now c.loop-left.sweeps =
    rw c.deref.ensures.0 (c.loop-left.invariant p so) in
    turn_settled far (c.in_default.ensures p far.bounding)
    (c.deref-in-loop-left.ensures.0 ∙ sym c.deref.ensures.0) c.deref-in-loop-left-2.ensures.0 c.if-same.ensures

-- Where it changes something, one sweep more is done.
next : (c : Else-same) (p : Plan) → Planned p c.args.tasks.now
    → SoFar p c.args.tasks.now c.sweep.new.figures.items (c.loop-left.sweeps + 1)
next c p so =
    let far : SoFar p c.args.tasks.now c.deref.result.now c.loop-left.sweeps =
    rw c.deref.ensures.0 (c.loop-left.invariant p so) in
    turn_next far (c.in_default.ensures p far.bounding)
    (c.deref-in-loop-left.ensures.0 ∙ sym c.deref.ensures.0) c.deref-in-loop-left-2.ensures.0 c.if-same.ensures

-- Then the next one is to be done, from the figures that this one left,
pub loop-left-preserved : goal.loop-left-preserved
loop-left-preserved c p so =
    let lent = c.deref-in-loop-left-3.ensures in
    let put = c.try_extend_from_slice.ensures in
    rw (copied c.try_extend_from_slice.result put.variant put.ok c.clear-in-loop-left.ensures lent.1 ∙ lent.0)
    (next (goal.at.loop-left-preserved c).Else-same p so)

-- and the bounds can grow by less than before.
pub loop-left-smaller : goal.loop-left-smaller
loop-left-smaller c =
    let (p, so) = c.requires in
    omega (arith, so_far_few (next (goal.at.loop-left-smaller c).Else-same p so), counted so)

-- No more sweeps are done than the bounds can grow by, so their number fits.
pub overflow_add-sweeps : goal.overflow_add-sweeps
overflow_add-sweeps c =
    let (p, so) = c.requires in
    omega (arith, so_far_few (c.loop-left.invariant p so), so.ranged.tasks)
