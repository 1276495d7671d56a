-- `ruled` judges a plan that reads, by its rows.
use Rattle.std.proofs.lemmas.Result.{err_from_is_err_and}
use Rattle.plan.proofs.Chain.{chain}
use Rattle.rules.proofs.WhenRead.{feeders, parts, outcome}
use Rattle.rules.proofs.judging.ruled.Goals as goal

-- The tasks' feeders are tasks,
pub refusal_8-requires : goal.refusal_8-requires
refusal_8-requires c = feeders c.requires

-- and the paths' parts lie inside the plan.
pub refusal_9-requires : goal.refusal_9-requires
refusal_9-requires c = parts c.requires

-- Where 7 is refused, that is what the rows come to;
pub returns-in_err-refusal_7 : goal.returns-in_err-refusal_7
returns-in_err-refusal_7 c =
    let last = err_from_is_err_and c.from_residual.result c.from_residual.ensures.1 in
    rw (last.1, last.2) (simp chain at (rw (← c.in_err-refusal_7.ensures) at (outcome c.requires)))

-- where 8 is the first,
pub returns-in_err-refusal_8 : goal.returns-in_err-refusal_8
returns-in_err-refusal_8 c =
    let last = err_from_is_err_and c.from_residual-in_err-refusal_8.result c.from_residual-in_err-refusal_8.ensures.1 in
    rw (last.1, last.2)
    (simp chain at (rw (← c.in_ok-refusal_7.ensures, ← c.in_err-refusal_8.ensures) at (outcome c.requires)))

-- or 9, that is;
pub returns-in_err-refusal_9 : goal.returns-in_err-refusal_9
returns-in_err-refusal_9 c =
    let last = err_from_is_err_and c.from_residual-in_err-refusal_9.result c.from_residual-in_err-refusal_9.ensures.1 in
    rw (last.1, last.2)
    (simp chain at
    (rw (← c.in_ok-refusal_7.ensures, ← c.in_ok-refusal_8.ensures, ← c.in_err-refusal_9.ensures) at (outcome c.requires)))

-- otherwise what 10 says is.
pub returns : goal.returns
returns c =
    rw (c.refusal_10.ensures, c.head_of.ensures.controllers.0)
    (simp chain at
    (rw (← c.in_ok-refusal_7.ensures, ← c.in_ok-refusal_8.ensures, ← c.in_ok-refusal_9.ensures) at (outcome c.requires)))
