-- `ruled_report` takes the refusals by the tables in their order.
use Rattle.std.proofs.Common.{◌≡◌}
use Rattle.std.proofs.lemmas.Result.{err_from_is_err_and}
use Rattle.bench.specs.declared.answers.Refusal.TheVariants.{Plan}
use Rattle.bench.proofs.Due.{refused_due}
use Rattle.bench.proofs.entry.ruled_report.Goals as goal

-- Where the tables are refused, their refusal is due.
pub returns-in_err-ruled : goal.returns-in_err-ruled
returns-in_err-ruled c =
    let last = err_from_is_err_and c.from_residual.result c.from_residual.ensures.1 in
    let is : last.0 ≡ Plan c.in_err-ruled.field-0.0 = last.2 in
    rw (last.1, is) (record { due = refused_due c.in_err-ruled.ensures })
