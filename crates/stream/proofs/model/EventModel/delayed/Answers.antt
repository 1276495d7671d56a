-- `EventModel::delayed` gives the model with the delay added to its jitter.
use Rattle.std.proofs.Common.{refl}
use Rattle.paper.specs.Streams.{delayed}
use Rattle.stream.proofs.model.EventModel.delayed.Goals as goal

-- The period is the old one, and the jitter the old one and the delay.
pub returns : goal.returns
unfolding delayed
returns c = refl
