-- `path_place` says where a path's task numbers lie in any bytes.
use Rattle.std.proofs.Common.{◌∙◌, arith}
use Rattle.rules.proofs.Said.{passed_well, refused_ill}
use Rattle.rules.proofs.Lying.{somewhere, nowhere, uncounted}
use Rattle.rules.proofs.asking.path_place.Goals as goal

-- In a plan that is refused they lie nowhere.
pub returns-then-is_err : goal.returns-then-is_err
returns-then-is_err c = nowhere (λ well h. refused_ill c.judge.result (cc) c.judge.ensures well)

-- Those of a path that the head counts lie where its row says,
pub returns-in-Some : goal.returns-in-Some
returns-in-Some c =
    let found = c.in-Some.ensures.lookup in
    somewhere c.deref.result.now c.in-Some.row.now (passed_well c.judge.result (cc) c.judge.ensures)
    (c.deref.ensures.0 ∙ c.path_rows.ensures) (omega arith) found.1

-- and those of any other path nowhere.
pub returns-in-None : goal.returns-in-None
returns-in-None c =
    let found = c.in-None.ensures.lookup in
    uncounted c.deref.result.now (c.deref.ensures.0 ∙ c.path_rows.ensures) (omega arith)
