-- `task_rows` takes a task more each time.
use Rattle.std.proofs.Common.{◌≡◌, min, ◌∙◌, sym, ap, length, add-zero, add_assoc, arith}
use Rattle.paper.specs.Limits.{most_tasks}
use Rattle.paper.specs.Fields.{tasks_of}
use Rattle.paper.specs.Tables as Tables
use Rattle.paper.specs.Tables.{plan_of}
use Rattle.plan.specs.Tables.{tabulate, task_rows, row_of}
use Rattle.plan.proofs.Begin.{begins_next}
use Rattle.plan.proofs.Rows.{length_tabulate, tabulated, task_kept}
use Rattle.plan.proofs.tasks.task_rows.Goals as goal

-- At first there is no row, and the first task comes after the head and the controllers.
pub loop-k-init : goal.loop-k-init
unfolding tabulate
loop-k-init c =
    record {
      begins = rw (add-zero, ← c.head_of-count.ensures.controllers.0) c.place-at.ensures;
      rows = c.new-rows.ensures;
    }

-- There is room for a row more.
pub push-requires : goal.push-requires
push-requires c =
    let so : length c.loop-k.rows.items ≡ c.loop-k.k = ap length c.loop-k.invariant.rows ∙ length_tabulate _ _ in
    (omega arith, omega (arith, so))

-- The next task's row is put last.
pub loop-k-preserved : goal.loop-k-preserved
unfolding plan_of
loop-k-preserved c =
    let so = c.loop-k.invariant in
    let here = c.placed-walker.ensures in
    let went = rw (here.0, here.1) at c.next-at.ensures in
    let s = c.args.s.now in
    record {
      begins = rw (← add_assoc) (begins_next so.begins went.0 went.1);
      rows =
          c.push.ensures.items
          ∙ tabulated _ so.rows
          (sym (task_kept c.task.result)
          ∙ ap (λ (t : Tables.Task). row_of t) ((rw (here.0, here.1) at c.task.ensures) ∙ ap (Tables.task_at s) so.begins.is));
    }

-- After the loop there is a row for every task that there is room for.
pub returns : goal.returns
unfolding task_rows plan_of
returns c =
    let done : c.loop-k.k ≡ min (tasks_of c.args.s.now) most_tasks = omega (arith, c.head_of-count.ensures.tasks.0) in
    c.loop-k.invariant.rows ∙ ap (λ n. tabulate n (λ k. row_of ((plan_of c.args.s.now).task k))) done
