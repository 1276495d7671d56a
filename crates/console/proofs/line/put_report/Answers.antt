-- `put_report` puts the report in hexadecimal.
use Rattle.std.proofs.Common.{arith}
use Rattle.console.proofs.Laws.{hex_long}
use Rattle.console.proofs.line.put_report.Goals as goal

-- Two digits stand for each byte.
pub returns : goal.returns
returns c = record { stored = c.write.ensures; ends = omega (arith, hex_long c.args.report.now) }
