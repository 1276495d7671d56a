-- `path_figures` takes a path more each time.
use Rattle.std.proofs.Common.{◌<◌, ◌≡◌, ◌∙◌, ap, length, arith}
use Rattle.paper.specs.Tables.{plan_of}
use Rattle.plan.specs.Tables.{tabulate}
use Rattle.plan.proofs.Rows.{length_tabulate, tabulated}
use Rattle.bench.specs.Rows.{path_figures}
use Rattle.bench.proofs.Paths.{ranged, paths_counted, path_is, inside, part_is, deadline_is, summable, best_is, worst_is}
use Rattle.bench.proofs.figures.path_figures.Goals as goal

-- At first there is none.
pub loop-path-init : goal.loop-path-init
unfolding tabulate
loop-path-init c = λ f so. c.new-rows.ensures

-- A path's part lies inside the plan,
pub part_of-part-requires : goal.part_of-part-requires
part_of-part-requires c =
    let (f, so) = c.requires in
    let q = c.loop-path.path-index in
    let h : q < (plan_of c.args.s.now).paths = omega (arith, paths_counted so) in
    rw (path_is so q _ h) (inside so q h)

-- and R- and R+ can be summed along it.
pub figures_along-requires : goal.figures_along-requires
figures_along-requires c =
    let (f, so) = c.requires in
    let q = c.loop-path.path-index in
    let h : q < (plan_of c.args.s.now).paths = omega (arith, paths_counted so) in
    rw (c.part_of-part.ensures.1, path_is so q _ h, part_is so q) (summable so q h)

-- There is room for a row more.
pub push-requires : goal.push-requires
push-requires c =
    let (f, so) = c.requires in
    let long : length c.loop-path.rows.items ≡ c.loop-path.path-index = ap length (c.loop-path.invariant f so) ∙ length_tabulate _ _ in
    (omega (arith, paths_counted so, (ranged so).paths), omega (arith, paths_counted so, (ranged so).paths, long))

-- The next path's figures are put last.
pub loop-path-preserved : goal.loop-path-preserved
loop-path-preserved c =
    λ f so.
    let q = c.loop-path.path-index in
    let h : q < (plan_of c.args.s.now).paths = omega (arith, paths_counted so) in
    let own = c.figures_along.ensures in
    let part : c.part_of-part.result.now ≡ (plan_of c.args.s.now).path q =
    rw (c.part_of-part.ensures.1, path_is so q _ h) (part_is so q) in
    let deadline : c.figures_along.result.deadline.0 ≡ (plan_of c.args.s.now).deadline q =
    rw (own.deadline, path_is so q _ h) (deadline_is so q) in
    c.push.ensures.items
    ∙ tabulated (path_figures (plan_of c.args.s.now) f) (c.loop-path.invariant f so)
    (λ i. record {
      deadline = record { 0 = deadline i };
      best = record { 0 = ((rw part at own.best) ∙ best_is so q h) i };
      worst = record { 0 = ((rw part at own.worst) ∙ worst_is so q h) i };
    })

-- At the end every path has its own.
pub returns : goal.returns
returns c =
    λ f so.
    let done : c.loop-path.path-index ≡ (plan_of c.args.s.now).paths = omega (arith, paths_counted so) in
    rw done at (c.loop-path.invariant f so)
