-- `path_figures` takes a path more each time.
use Rattle.std.proofs.Common.{◌≡◌}
use Rattle.paper.specs.Tables.{plan_of}
use Rattle.paper.specs.Report.{Figures}
use Rattle.plan.specs.Tables.{tabulate}
use Rattle.bench.specs.Rows.{path_figures}
use Rattle.bench.specs.Tabled.{Pathed}
use Rattle.bench.proofs.figures.path_figures.Given as goal

-- The loop's invariant: the rows hold the figures of the paths so far.
abbrev pub invariant-loop-path : goal.invariant-loop-path
invariant-loop-path l = (f : Figures) → Pathed l.s f l.paths l.tasks
    → l.rows.items ≡ tabulate l.path-index (path_figures (plan_of l.s) f)
