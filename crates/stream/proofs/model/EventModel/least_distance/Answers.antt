-- `EventModel::least_distance` gives the least distance of n events.
use Rattle.std.proofs.Common.{arith}
use Rattle.paper.specs.Streams.{d}
use Rattle.stream.proofs.model.EventModel.least_distance.Goals as goal

-- What is left of n - 1 periods without the jitter is the least distance.
pub returns : goal.returns
unfolding d
returns c = grind (arith, c.minus.ensures, c.saturating_sub.ensures)
