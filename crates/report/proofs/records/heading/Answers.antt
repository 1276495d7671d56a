-- `records::heading` writes a tag and, behind it, a length.
use Rattle.theory.specs.Bytes.{bytes_length}
use Rattle.report.proofs.Laws.{more}
use Rattle.report.proofs.records.heading.Goals as goal

-- The length stands right behind the tag's byte.
pub returns : goal.returns
returns c = more c.put.ensures c.put-2.ensures (bytes_length 1 _)
