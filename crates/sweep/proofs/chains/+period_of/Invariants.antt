-- `period_of` comes nearer to the chain's start with each feeder.
use Rattle.sweep.proofs.Back.{depth}
use Rattle.sweep.proofs.chains.+period_of.Given as goal

-- The steps back that are left.
abbrev pub decreases-period_of : goal.decreases-period_of
decreases-period_of l = depth l.tasks.now l.task.0
