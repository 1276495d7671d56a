-- The loop of `above_one`.
use Rattle.load.specs.Shares.{on_in, cost_in, period_in}
use Rattle.load.proofs.Ran.{Ran}
use Rattle.load.proofs.above_one.Given as goal

-- The fraction is that of the tasks that have passed.
abbrev pub invariant-loop-share : goal.invariant-loop-share
invariant-loop-share l =
    Ran (on_in l.shares l.c.0) (cost_in l.shares) (period_in l.shares) l.load.num l.load.den l.load.added l.share-index
