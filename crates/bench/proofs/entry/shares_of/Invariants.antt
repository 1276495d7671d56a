-- `shares_of` takes a task more each time.
use Rattle.std.proofs.Common.{◌≡◌, length}
use Rattle.paper.specs.Tables.{Plan}
use Rattle.plan.specs.Tables.{tabulate}
use Rattle.bench.specs.Rows.{share_row}
use Rattle.bench.specs.Tabled.{Timed}
use Rattle.bench.proofs.entry.shares_of.Given as goal

-- The loop's invariant: the rows hold the shares of the tasks so far.
abbrev pub invariant-loop-task : goal.invariant-loop-task
invariant-loop-task l = (p : Plan) → Timed p l.tasks l.periods → l.shares.items ≡ tabulate (length l.yielded) (share_row p)
