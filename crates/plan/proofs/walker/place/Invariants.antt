-- `place` follows the walker from the first field on.
use Rattle.plan.specs.Places.{Begins}
use Rattle.plan.proofs.walker.place.Given as goal

-- The loop's invariant: field number g begins at the place.
abbrev pub invariant-loop-g : goal.invariant-loop-g
invariant-loop-g l = Begins l.s l.g l.at
