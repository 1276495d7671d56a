-- `task_rows` takes a task more each time.
use Rattle.std.proofs.Common.{◌+◌, ◌≡◌}
use Rattle.paper.specs.Fields.{controllers_of}
use Rattle.paper.specs.Tables.{plan_of}
use Rattle.plan.specs.Places.{Begins}
use Rattle.plan.specs.Tables.{tabulate, row_of}
use Rattle.plan.proofs.tasks.task_rows.Given as goal

-- The loop's invariant: the rows are those of the first k tasks, and the next one's field begins at the place.
abbrev pub invariant-loop-k : goal.invariant-loop-k
invariant-loop-k l = record {
  begins : Begins l.s (1 + controllers_of l.s + l.k) l.at;
  rows : l.rows.items ≡ tabulate l.k (λ k. row_of ((plan_of l.s).task k));
}
