-- `first` asks a judge at the numbers in their order.
use Rattle.std.proofs.Common.{refl, arith, Ok, Err}
use Rattle.std.proofs.lemmas.Result.{err_from_is_err_and}
use Rattle.rules.specs.Faults.{lowest}
use Rattle.rules.proofs.Lowest.{lowest_more, lowest_here}
use Rattle.rules.proofs.refusals.first.Goals as goal

-- Below 0 nothing is wrong.
pub loop-k-init : goal.loop-k-init
unfolding lowest
loop-k-init g c = λ refusal wrong by. refl

-- Where the judge says nothing at k, nothing is wrong there.
pub loop-k-preserved : goal.loop-k-preserved
loop-k-preserved g c =
    λ refusal wrong by.
    lowest_more refusal wrong c.loop-k.k (c.loop-k.invariant refusal wrong by)
    (by c.loop-k.k (Ok c.in_ok-judge.field-0) (omega arith) c.in_ok-judge.ensures)

-- What it refuses at k is the first refusal.
pub returns-in_err-judge : goal.returns-in_err-judge
returns-in_err-judge g c =
    λ refusal wrong by.
    let last = err_from_is_err_and c.from_residual.result c.from_residual.ensures.1 in
    rw (last.1, last.2)
    (lowest_here refusal wrong c.loop-k.k c.args.n _ _ (c.loop-k.invariant refusal wrong by)
    (by c.loop-k.k (Err c.in_err-judge.field-0.0) (omega arith) c.in_err-judge.ensures) (omega arith))
