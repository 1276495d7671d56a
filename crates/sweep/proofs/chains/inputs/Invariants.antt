-- What the loops of `inputs` keep: first the places are made, one for each task; then they are filled.
use Rattle.std.proofs.Common.{ℕ, ◌≤◌, ◌<◌, ◌≡◌, length}
use Rattle.paper.specs.Limits.{most_tasks}
use Rattle.paper.specs.Tables.{Plan}
use Rattle.paper.specs.Sets.{inputs}
use Rattle.plan.specs.Tables.{tabulate}
use Rattle.sweep.specs.Rows.{stream_row, no_stream, bounds_of}
use Rattle.sweep.specs.Planned.{Bounding, Stands, Filling}
use Rattle.sweep.proofs.chains.inputs.Given as goal

-- The places are as many as the turns, for which there is room, and no stream stands in any.
abbrev pub invariant-loop : goal.invariant-loop
invariant-loop l =
    record {
      room : length l.tasks ≤ most_tasks;
      count : length l.streams.items ≡ l.index;
      none : l.streams.items ≡ tabulate l.index (stream_row (λ k. no_stream));
    }

-- The first k places are filled, and whatever stands in any other is that task's input stream.
abbrev pub invariant-loop-k : goal.invariant-loop-k
invariant-loop-k l =
    record {
      filling : (p : Plan) → Bounding p l.tasks l.set → Filling p (inputs p (bounds_of l.set)) l.streams.items;
      stand : (p : Plan) → Bounding p l.tasks l.set → (j : ℕ) → j < l.k → Stands l.streams.items j;
    }
