-- `put_words` puts what document 01's line says of an answer.
use Rattle.std.proofs.Common.{◌+◌, ◌≤◌, ◌≡◌, arith, length, take}
use Rattle.std.proofs.Math.Seq.{length-take-le}
use Rattle.paper.specs.Line.{hex_of, words_of}
use Rattle.paper.specs.Report.{report_bytes}
use Rattle.console.proofs.Laws.{hex_long}
use Rattle.console.proofs.line.put_words.Goals as goal

-- Of a report its bytes,
pub returns-in-Ok-clause-words : goal.returns-in-Ok-clause-words
unfolding words_of
returns-in-Ok-clause-words c = rw c.in-Ok.is c.put_report.ensures

-- two digits for each.
pub returns-in-Ok-clause-room : goal.returns-in-Ok-clause-room
returns-in-Ok-clause-room c =
    let report = c.args.report.now in
    let told = c.in-Ok.field-0.length in
    let inside : told ≤ report_bytes = rw c.in-Ok.is at c.requires in
    let ends : c.put_report.result ≡ 0 + length (hex_of (take told report)) = c.put_report.ensures.ends in
    omega (arith, ends, hex_long (take told report), length-take-le told report (omega (arith, inside)))
