-- `figures_along` adds up R- and R+ of the tasks along a part of the plan.
use Rattle.std.proofs.Common.{ℕ, ◌+◌, ◌<◌, ◌≡◌, sym, ap, ◌∙◌, arith, add-zero, add-one, length, get_or, drop, drop-cons}
use Rattle.std.proofs.Math.Seq.{drop-length}
use Rattle.paper.specs.Bytes.{Bytes}
use Rattle.paper.specs.Report.{along}
use Rattle.bench.specs.Sums.{least_in, bound_in}
use Rattle.bench.proofs.along.figures_along.Goals as goal

-- A sum along a path from its step i on is that step's, and the sum from the next one on.
step : (part : Bytes) (f : ℕ → ℕ) (i : ℕ) → i < length part
    → along (drop i part) f ≡ f (get_or part i 0) + along (drop (i + 1) part) f
unfolding along
step part f i h = rw (drop-cons part i 0 h, add-one i)

-- Where no step is left, the sum so far is the whole one.
ended : (part : Bytes) (f : ℕ → ℕ) (i sum : ℕ) → i ≡ length part → sum + along (drop i part) f ≡ along part f → sum ≡ along part f
unfolding along
ended part f i sum done so_far = sym (add-zero sum) ∙ (rw (done, drop-length part) at so_far)

-- The next step's ticks are added.
pub loop-byte-preserved : goal.loop-byte-preserved
loop-byte-preserved c =
    let part = c.args.part.now in
    let tasks = c.args.tasks.now in
    let i = c.loop-byte.byte-index in
    let k = c.from.result in
    let counted : k < length tasks = omega (arith, c.from.ensures, c.requires.steps i c.loop-byte-test.true) in
    let least : least_in tasks k ≡ least_in tasks (get_or part i 0) = ap (least_in tasks) c.from.ensures in
    let bound : bound_in tasks k ≡ bound_in tasks (get_or part i 0) = ap (bound_in tasks) c.from.ensures in
    record {
      best_small = omega (arith, c.requires.least k counted);
      worst_small = omega (arith, c.requires.bounds k counted);
      best = omega (arith, step part (least_in tasks) i c.loop-byte-test.true);
      worst = omega (arith, step part (bound_in tasks) i c.loop-byte-test.true);
    }

-- At the end no step is left to the one sum,
pub returns-clause-best : goal.returns-clause-best
returns-clause-best c = ended c.args.part.now _ _ _ (omega arith) c.loop-byte.invariant.best

-- nor to the other.
pub returns-clause-worst : goal.returns-clause-worst
returns-clause-worst c = ended c.args.part.now _ _ _ (omega arith) c.loop-byte.invariant.worst
