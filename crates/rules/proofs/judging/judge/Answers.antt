-- `judge` judges any bytes.
use Rattle.std.proofs.Common.{sym}
use Rattle.std.proofs.lemmas.Result.{err_from_is_err_and}
use Rattle.rules.specs.Judges.{unread}
use Rattle.rules.proofs.judging.judge.Goals as goal

-- What reading refuses is refused so.
pub returns-in_err-read : goal.returns-in_err-read
returns-in_err-read c =
    let last = err_from_is_err_and c.from_residual.result c.from_residual.ensures.1 in
    rw (last.1, last.2) (unread (sym c.in_err-read.ensures))
