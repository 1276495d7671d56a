-- `place` follows the walker from the first field on.
use Rattle.plan.proofs.Begin.{begins, begins_next}
use Rattle.plan.proofs.walker.place.Goals as goal

-- The first field begins at 0.
pub loop-g-init : goal.loop-g-init
loop-g-init c = begins _

-- The next field begins where the walker goes.
pub loop-g-preserved : goal.loop-g-preserved
loop-g-preserved c =
    let went = rw (c.placed.ensures.0, c.placed.ensures.1) at c.next-at.ensures in
    begins_next c.loop-g.invariant went.0 went.1
