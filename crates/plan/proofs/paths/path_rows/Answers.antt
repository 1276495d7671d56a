-- `path_rows` takes a path more each time.
use Rattle.std.proofs.Common.{◌≡◌, min, ◌∙◌, ap, length, add-zero, add_assoc, arith}
use Rattle.paper.specs.Limits.{most_paths}
use Rattle.paper.specs.Fields.{paths_of}
use Rattle.paper.specs.Tables.{path_place}
use Rattle.plan.specs.Tables.{tabulate, path_rows, path_row}
use Rattle.plan.proofs.Begin.{begins_next}
use Rattle.plan.proofs.Rows.{length_tabulate, tabulated}
use Rattle.plan.proofs.paths.path_rows.Goals as goal

-- At first there is no row, and the first path comes after the head, the controllers and the tasks.
pub loop-q-init : goal.loop-q-init
unfolding tabulate
loop-q-init c =
    record {
      begins =
          rw (add-zero, ← c.head_of-count.ensures.controllers.0, ← c.head_of-count.ensures.tasks.0) c.place-at.ensures;
      rows = c.new-rows.ensures;
    }

-- There is room for a row more.
pub push-requires : goal.push-requires
push-requires c =
    let so : length c.loop-q.rows.items ≡ c.loop-q.q = ap length c.loop-q.invariant.rows ∙ length_tabulate _ _ in
    (omega arith, omega (arith, so))

-- The next path's row is put last.
pub loop-q-preserved : goal.loop-q-preserved
loop-q-preserved c =
    let so = c.loop-q.invariant in
    let here = c.placed-walker.ensures in
    let went = rw (here.0, here.1) at c.next-at.ensures in
    record {
      begins = rw (← add_assoc) (begins_next so.begins went.0 went.1);
      rows = c.push.ensures.items ∙ tabulated _ so.rows ((rw (here.0, here.1) at c.path.ensures) ∙ ap (path_row c.args.s.now) so.begins.is);
    }

-- After the loop there is a row for every path that there is room for.
pub returns : goal.returns
unfolding path_rows
returns c =
    let done : c.loop-q.q ≡ min (paths_of c.args.s.now) most_paths = omega (arith, c.head_of-count.ensures.paths.0) in
    c.loop-q.invariant.rows ∙ ap (λ n. tabulate n (λ q. path_row c.args.s.now (path_place c.args.s.now q))) done
