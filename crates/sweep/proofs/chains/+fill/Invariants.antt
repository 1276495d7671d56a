-- `fill` comes nearer to the chain's start with each feeder.
use Rattle.sweep.proofs.Back.{depth}
use Rattle.sweep.proofs.chains.+fill.Given as goal

-- The steps back that are left.
abbrev pub decreases-fill : goal.decreases-fill
decreases-fill l = depth l.tasks.now l.task.0
