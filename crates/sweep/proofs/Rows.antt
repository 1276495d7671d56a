-- What the rows of a plan's tasks tell of it.
use Rattle.std.proofs.Common.{ℕ, ◌+◌, ◌≤◌, ◌<◌, ◌^◌, ◌≡◌, ◌↔◌, ap, sym, ◌∙◌, arith, List, [], ◌++◌, length, get_or, Result, Ok, Err, IsOk, OnOk, true≢false}
use Rattle.paper.specs.Limits.{most_tasks, most_cost, most_ticks}
use Rattle.paper.specs.Tables as Tables
use Rattle.paper.specs.Tables.{Plan, outside, fed}
use Rattle.paper.specs.Windows.{Inputs}
use Rattle.stream.specs.Model.{model_of}
use Rattle.stream.specs.declared.model.EventModel.{EventModel}
use Rattle.stream.specs.declared.kinds.TaskNo.{TaskNo}
use Rattle.plan.specs.declared.tasks.Source.{Source}
use Rattle.plan.specs.declared.tasks.Source.TheVariants.{Outside, Fed}
use Rattle.plan.specs.declared.tasks.Task.{Task}
use Rattle.plan.specs.Tables.{source_of, task_of, row_of, task_rows}
use Rattle.plan.proofs.Rows.{length_tabulate, tabulate_at, task_held, told}
use Rattle.sweep.specs.Rows.{stream_row}
use Rattle.sweep.specs.Planned.{Planned, Streaming}

-- What is put into an empty list, and is no more than it has room for, is all that stands there.
pub copied : {A E : Type 0} {rows none more : List A} {most : ℕ} (r : Result (Unit {0}) E)
    → (IsOk r ↔ (length none + length more ≤ most)) → OnOk r (rows ≡ none ++ more) → none ≡ [] → length more ≤ most → rows ≡ more
copied {more = more} (Ok u) fits put empty room = put ∙ ap (λ none. none ++ more) empty
copied (Err e) fits put empty room = absurd (true≢false (sym (fits.1 (rw empty (omega (arith, room))))))

module _ {p : Plan} {tasks : List Task} (so : Planned p tasks) where
  -- There is a row for each task,
  pub counted : length tasks ≡ p.tasks
  counted = ap length so.rows ∙ (told p so.ranged.tasks).count

  -- as many as there is room for,
  pub room : length tasks ≤ most_tasks
  room = omega (arith, counted, so.ranged.tasks)

  -- each its own,
  pub row_is : (k : ℕ) (d : Task) → k < p.tasks → get_or tasks k d ≡ row_of (p.task k)
  unfolding task_rows
  row_is k d h = ap (λ rows. get_or rows k d) so.rows ∙ tabulate_at _ _ k d (omega (arith, so.ranged.tasks))

  -- which holds the task,
  pub task_is : (k : ℕ) (d : Task) → k < p.tasks → task_of (get_or tasks k d) ≡ p.task k
  task_is k d h = ap (λ (t : Task). task_of t) (row_is k d h) ∙ task_held (p.task k)

  -- with its C+ in range,
  pub cost_in_range : (k : ℕ) (d : Task) → k < p.tasks
      → (1 ≤ (get_or tasks k d).most.0) × ((get_or tasks k d).most.0 ≤ most_cost)
  cost_in_range k d h =
      rw (row_is k d h) (omega (arith, so.sound.some_cost k h, so.sound.costs k h), so.ranged.cost k h)

  -- and its source.
  source_is : (k : ℕ) (d : Task) → k < p.tasks → (p.task k).source ≡ source_of (get_or tasks k d).source
  source_is k d h = sym (ap (λ (t : Tables.Task). t.source) (task_is k d h))

  -- A task whose row says that it is fed is fed by the task that the row names,
  pub fed_by : (k : ℕ) (d : Task) {feeder : TaskNo} → k < p.tasks → (get_or tasks k d).source ≡ Fed feeder
      → (p.task k).source ≡ fed feeder.0
  fed_by k d h e = source_is k d h ∙ ap (λ (s : Source). source_of s) e

  -- which is a task of the plan.
  pub fed_counted : (k : ℕ) (d : Task) {feeder : TaskNo} → k < p.tasks → (get_or tasks k d).source ≡ Fed feeder
      → feeder.0 < p.tasks
  fed_counted k d {feeder} h e = so.sound.feeders k feeder.0 h (fed_by k d h e)

  -- A task whose row names a stream from outside starts a chain.
  pub starts : (k : ℕ) (d : Task) {M : EventModel} → k < p.tasks → (get_or tasks k d).source ≡ Outside M
      → (p.task k).source ≡ outside (model_of M)
  starts k d h e = source_is k d h ∙ ap (λ (s : Source). source_of s) e

module _ {p : Plan} {S : Inputs} {tasks : List Task} {inputs : List EventModel} (so : Streaming p S tasks inputs) where
  -- There is an input stream for each task,
  pub streams_counted : length inputs ≡ p.tasks
  streams_counted = ap length so.streams ∙ length_tabulate _ _

  -- its own,
  pub stream_is : (k : ℕ) (d : EventModel) → k < p.tasks → get_or inputs k d ≡ stream_row S k
  stream_is k d h = ap (λ rows. get_or rows k d) so.streams ∙ tabulate_at _ _ k d h

  -- with numbers in range.
  pub stream_in_range : (k : ℕ) (d : EventModel) → k < p.tasks
      → (1 ≤ (get_or inputs k d).period.0)
      × ((get_or inputs k d).period.0 ≤ most_ticks)
      × ((get_or inputs k d).jitter.0 < 2 ^ 37)
  stream_in_range k d h = rw (stream_is k d h) (so.some_period k h, so.short_period k h, so.small_jitter k h)
