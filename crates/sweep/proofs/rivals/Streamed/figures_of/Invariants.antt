-- What the loop of `figures_of` keeps: the figures of the first k tasks are worked out.
use Rattle.std.proofs.Common.{◌≤◌, ◌≡◌, length}
use Rattle.paper.specs.Limits.{most_tasks}
use Rattle.paper.specs.Tables.{Plan}
use Rattle.paper.specs.Windows.{Inputs}
use Rattle.sweep.specs.Planned.{Streaming}
use Rattle.sweep.specs.Works.{Upto}
use Rattle.sweep.proofs.rivals.Streamed.figures_of.Given as goal

-- They are k, for which there is room, and none of these tasks leaves the limits.
abbrev pub invariant-loop-k : goal.invariant-loop-k
invariant-loop-k l =
    record {
      room : length l.self.tasks.now ≤ most_tasks;
      count : length l.figures.items ≡ l.k;
      upto : (p : Plan) (S : Inputs) → Streaming p S l.self.tasks.now l.self.inputs.now → Upto p S l.k l.figures.items;
    }
