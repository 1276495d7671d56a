-- `PathFigures::slack` gives the slack in two's complement.
use Rattle.std.proofs.Common.{arith}
use Rattle.report.proofs.Bytes.{slack_bytes}
use Rattle.report.proofs.figures.PathFigures.slack.Goals as goal

-- It is the difference that is left in 64 bits.
pub returns : goal.returns
returns c = slack_bytes c.args.self.deadline.0 c.args.self.worst.0 (omega arith) (omega arith)
