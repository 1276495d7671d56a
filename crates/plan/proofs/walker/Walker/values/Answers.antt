-- `Walker::values` judges values of one byte, one after the other.
use Rattle.std.proofs.Common.{ℕ, zero, suc, ◌+◌, ◌-◌, ◌≡◌, replicate, refl, sym, add-zero, add_assoc, add-one, add-suc, one-add, arith}
use Rattle.std.proofs.lemmas.Result.{err_from_is_err_and}
use Rattle.paper.specs.Words.{within}
use Rattle.paper.specs.Bytes.{Bytes, number}
use Rattle.paper.specs.Fields.{refused, ◌and_then◌, unless, in_ranges, byte}
use Rattle.plan.proofs.Chain.{chain}
use Rattle.plan.proofs.walker.Walker.values.Goals as goal

-- One value more is judged after the others.
values_more : (s : Bytes) (at least most i : ℕ) →
    in_ranges s at (replicate (suc i) (byte least most))
    ≡ in_ranges s at (replicate i (byte least most)) and_then unless (within least (number s (at + i) 1) most) 5 (at + i)
unfolding in_ranges
values_more s at least most zero = simp (chain, add-zero)
values_more s at least most (suc i) = rw (values_more s (at + 1) least most i) (simp (chain, add_assoc, one-add))

-- Where the first values are refused, more of them are refused alike.
values_refused : (s : Bytes) (at least most i more m p : ℕ) → in_ranges s at (replicate i (byte least most)) ≡ refused m p
    → in_ranges s at (replicate (i + more) (byte least most)) ≡ refused m p
values_refused s at least most i zero m p e = rw add-zero e
values_refused s at least most i (suc more) m p e =
    rw (add-suc, values_more s at least most (i + more), values_refused s at least most i more m p e) (simp chain)

-- Before the first value nothing is judged.
pub loop-i-init : goal.loop-i-init
unfolding in_ranges
loop-i-init c = refl

-- The next value passes too.
pub loop-i-preserved : goal.loop-i-preserved
loop-i-preserved c = rw (add-one, values_more, c.loop-i.invariant, add_assoc, ← c.in_ok-value.ensures) (simp chain)

-- The first value that is refused decides.
pub returns-in_err-value : goal.returns-in_err-value
returns-in_err-value c =
    let last = err_from_is_err_and c.from_residual.result c.from_residual.ensures.1 in
    let is : c.args.n ≡ suc c.loop-i.i + (c.args.n - suc c.loop-i.i) = omega arith in
    let so = values_more c.args.self.plan.now (c.args.self.at + c.args.behind) 0 c.args.most c.loop-i.i in
    rw (last.1, last.2, is)
    (sym (values_refused _ _ _ _ _ _ _ _ (rw (so, c.loop-i.invariant, add_assoc, ← c.in_err-value.ensures) (simp chain))))
