-- `report_on` refuses what reading refuses.
use Rattle.std.proofs.Common.{◌≡◌, sym}
use Rattle.std.proofs.lemmas.Result.{err_from_is_err_and}
use Rattle.paper.specs.Answer as Answer
use Rattle.bench.specs.declared.answers.Refusal.TheVariants.{Plan}
use Rattle.bench.proofs.entry.report_on.Goals as goal

-- Where reading refuses, its refusal is due.
pub returns-in_err-read : goal.returns-in_err-read
returns-in_err-read c =
    let last = err_from_is_err_and c.from_residual.result c.from_residual.ensures.1 in
    let is : last.0 ≡ Plan c.in_err-read.field-0.0 = last.2 in
    rw (last.1, is) (record { due = Answer.unread (sym c.in_err-read.ensures) })
