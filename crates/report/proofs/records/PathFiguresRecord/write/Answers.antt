-- `PathFigures::write` writes a path's record, field by field.
use Rattle.std.proofs.Common.{◌≡◌, ℕ, ◌++◌, ◌∙◌, refl}
use Rattle.paper.specs.Bytes.{bytes, difference}
use Rattle.paper.specs.Report.{record_of, verdict, path_record}
use Rattle.report.specs.Figured.{of_path}
use Rattle.report.proofs.Laws.{more}
use Rattle.report.proofs.records.PathFiguresRecord.write.Goals as goal

-- A path's record, with its verdict and its slack as the code has them.
path_bytes : (path deadline best worst v s : ℕ) → v ≡ verdict deadline worst → bytes 8 s ≡ difference 8 deadline worst
    → bytes 1 0xA0 ++ bytes 2 26 ++ bytes 1 path ++ bytes 1 v ++ bytes 8 best ++ bytes 8 worst ++ bytes 8 s
    ≡ path_record path deadline best worst
unfolding bytes path_record record_of
path_bytes path deadline best worst v s e f = rw (← f, ← e)

-- Each field stands right behind the one before it.
pub returns : goal.returns
unfolding bytes of_path
returns c =
    rw (← (path_bytes _ _ _ _ _ _ (c.number.ensures ∙ c.verdict.ensures) c.slack.ensures))
    (more (more (more (more (more c.heading.ensures c.put.ensures refl) c.put-2.ensures refl) c.put-3.ensures refl)
    c.put-4.ensures refl) c.put-5.ensures refl)
