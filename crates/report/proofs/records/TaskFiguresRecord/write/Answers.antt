-- `TaskFigures::write` writes a task's record, field by field.
use Rattle.std.proofs.Common.{refl}
use Rattle.paper.specs.Bytes.{bytes}
use Rattle.paper.specs.Report.{record_of, task_record}
use Rattle.report.specs.Figured.{of_task}
use Rattle.report.proofs.Laws.{more}
use Rattle.report.proofs.records.TaskFiguresRecord.write.Goals as goal

-- Each field stands right behind the one before it.
pub returns : goal.returns
unfolding bytes of_task task_record record_of
returns c =
    let from_task = more c.heading.ensures c.put.ensures refl in
    let to_bound = more (more from_task c.put-2.ensures refl) c.put-3.ensures refl in
    more (more (more to_bound c.put-4.ensures refl) c.put-5.ensures refl) c.put-6.ensures refl
