-- What the loop of `periods` keeps: the periods of the first k tasks stand there.
use Rattle.std.proofs.Common.{◌≤◌, ◌≡◌, length}
use Rattle.paper.specs.Limits.{most_tasks}
use Rattle.paper.specs.Tables.{Plan}
use Rattle.plan.specs.Tables.{tabulate}
use Rattle.sweep.specs.Rows.{period_of}
use Rattle.sweep.specs.Planned.{Planned}
use Rattle.sweep.proofs.chains.periods.Given as goal

-- They are k, for which there is room, and each is its task's.
abbrev pub invariant-loop-k : goal.invariant-loop-k
invariant-loop-k l =
    record {
      room : length l.tasks ≤ most_tasks;
      count : length l.periods.items ≡ l.k;
      filled : (p : Plan) → Planned p l.tasks → l.periods.items ≡ tabulate l.k (period_of p);
    }
