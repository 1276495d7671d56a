-- `path_rows` takes a path more each time.
use Rattle.std.proofs.Common.{◌+◌, ◌≡◌}
use Rattle.paper.specs.Fields.{controllers_of, tasks_of}
use Rattle.paper.specs.Tables.{path_place}
use Rattle.plan.specs.Places.{Begins}
use Rattle.plan.specs.Tables.{tabulate, path_row}
use Rattle.plan.proofs.paths.path_rows.Given as goal

-- The loop's invariant: the rows are those of the first q paths, and the next one's field begins at the place.
abbrev pub invariant-loop-q : goal.invariant-loop-q
invariant-loop-q l = record {
  begins : Begins l.s (1 + controllers_of l.s + tasks_of l.s + l.q) l.at;
  rows : l.rows.items ≡ tabulate l.q (λ q. path_row l.s (path_place l.s q));
}
