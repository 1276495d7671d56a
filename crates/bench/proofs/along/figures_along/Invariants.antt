-- `figures_along` adds up R- and R+ of the tasks along a part of the plan.
use Rattle.std.proofs.Common.{◌≡◌, ◌+◌, ◌*◌, ◌≤◌, drop}
use Rattle.paper.specs.Limits.{most_ticks}
use Rattle.paper.specs.Report.{along}
use Rattle.bench.specs.Sums.{least_in, bound_in}
use Rattle.bench.proofs.along.figures_along.Given as goal

-- The loop's invariant: each sum so far and the one from the next step on are the whole sum, and each step so far gave ticks within
-- limits.
abbrev pub invariant-loop-byte : goal.invariant-loop-byte
invariant-loop-byte l = record {
  best_small : l.best ≤ l.byte-index * most_ticks;
  worst_small : l.worst ≤ l.byte-index * most_ticks;
  best : l.best + along (drop l.byte-index l.part) (least_in l.tasks) ≡ along l.part (least_in l.tasks);
  worst : l.worst + along (drop l.byte-index l.part) (bound_in l.tasks) ≡ along l.part (bound_in l.tasks);
}
