-- `Head::write` writes the head, field by field.
use Rattle.std.proofs.Common.{refl}
use Rattle.paper.specs.Bytes.{bytes}
use Rattle.paper.specs.Report.{record_of, head_record}
use Rattle.report.proofs.Laws.{more}
use Rattle.report.proofs.records.Head.write.Goals as goal

-- Each field stands right behind the one before it.
pub returns : goal.returns
unfolding bytes head_record record_of
returns c =
    more (more (more (more c.heading.ensures c.put.ensures refl) c.put-2.ensures refl) c.put-3.ensures refl) c.put-4.ensures
    refl
