-- What the loop of `gather` keeps: the rivals among the first j tasks are gathered.
use Rattle.std.proofs.Common.{◌≤◌, ◌<◌, length}
use Rattle.paper.specs.Limits.{most_sharing}
use Rattle.paper.specs.Tables.{Plan}
use Rattle.paper.specs.Windows.{Inputs}
use Rattle.sweep.specs.Planned.{Streaming}
use Rattle.sweep.proofs.Gather.{Gathered}
use Rattle.sweep.proofs.rivals.Streamed.gather.Given as goal

-- They are no more than may share a controller, and interfere as the first j tasks do.
abbrev pub invariant-loop-j : goal.invariant-loop-j
invariant-loop-j l =
    record {
      few : length l.rivals.items ≤ most_sharing;
      gathered : (p : Plan) (S : Inputs) → Streaming p S l.self.tasks.now l.self.inputs.now → l.fn.task.0 < p.tasks
          → Gathered p S l.fn.task.0 l.j l.rivals.items;
    }
