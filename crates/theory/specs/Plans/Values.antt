-- What stands in the fields of a plan that reads: the head's counts, each task's values, each path's.
use Rattle.std.specs.Prelude.{ℕ, ◌+◌, ◌-◌, ◌≤◌, ◌<◌, ◌≡◌, List, true, false, eqb, length, get_or}
use Rattle.std.proofs.Common.{⊎_elim, arith}
use Rattle.paper.specs.Limits.{most_controllers, most_tasks, most_paths, most_steps, most_cost, most_ticks}
use Rattle.paper.specs.Bytes.{Bytes, number}
use Rattle.paper.specs.Fields.{passed, Value, in_ranges, tag_at, length_at, controllers_of, tasks_of, paths_of, place, due_field}
use Rattle.paper.specs.Fields.{head_field, task_values, task_field, fed_field, outside_field, path_field}
use Rattle.paper.specs.Streams.{Stream}
use Rattle.paper.specs.Tables.{outside, fed, stream_at, source_at, task_at, task_place, path_place}
use Rattle.paper.specs.Refusals.{read}
use Rattle.theory.specs.Plans.Judging.{cond_passed, in_range, in_ranges_pass}
use Rattle.theory.specs.Plans.Reading.{field_read, due_task, due_path, due_passed}

-- What stands in the head: its counts are within the limits.
pub record HeadRead (s : Bytes) : Type 0 where
  pub some_controllers : 1 ≤ controllers_of s
  pub controllers : controllers_of s ≤ most_controllers
  pub some_tasks : 1 ≤ tasks_of s
  pub tasks : tasks_of s ≤ most_tasks
  pub paths : paths_of s ≤ most_paths

-- Where the head's field passes, it says that.
pub head_read : (s : Bytes) → head_field s 0 ≡ passed → HeadRead s
unfolding head_field
head_read s e =
    let edition = in_range s 3 _ _ _ _ (field_read _ _ _ _ _ _ e).held in
    let controllers = in_range s 4 _ _ _ _ edition.rest in
    let tasks = in_range s 5 _ _ _ _ controllers.rest in
    let paths = in_range s 6 _ _ _ _ tasks.rest in
    record {
      some_controllers = controllers.low;
      controllers = controllers.high;
      some_tasks = tasks.low;
      tasks = tasks.high;
      paths = paths.high;
    }

-- What a 20 and a 21 both have.
pub record TaskValues (s : Bytes) (at : ℕ) : Type 0 where
  -- Its controller is one that the head counts,
  pub controller : (task_at s at).controller ≤ controllers_of s - 1
  -- its priority is a byte,
  pub priority : (task_at s at).priority ≤ 255
  -- and it costs something, at least its least and at most the limit.
  pub some_cost : 1 ≤ (task_at s at).C-
  pub costs : (task_at s at).C- ≤ (task_at s at).C+
  pub cost : (task_at s at).C+ ≤ most_cost

-- Where their values pass, they say that, and what only the tag has passes too.
values_read : (s : Bytes) (at : ℕ) (rest : List Value) → in_ranges s (at + 3) (task_values s at rest) ≡ passed
    → TaskValues s at × (in_ranges s (at + 13) rest ≡ passed)
unfolding task_values task_at
values_read s at rest e =
    let to_4 : at + 3 + 1 ≡ at + 4 = omega arith in
    let to_5 : at + 4 + 1 ≡ at + 5 = omega arith in
    let to_9 : at + 5 + 4 ≡ at + 9 = omega arith in
    let to_13 : at + 9 + 4 ≡ at + 13 = omega arith in
    let controller = in_range s (at + 3) _ _ _ _ e in
    let priority = in_range s (at + 4) _ _ _ _ (rw to_4 at controller.rest) in
    let least = in_range s (at + 5) _ _ _ _ (rw to_5 at priority.rest) in
    let most = in_range s (at + 9) _ _ _ _ (rw to_9 at least.rest) in (
      record {
        controller = controller.high;
        priority = priority.high;
        some_cost = least.low;
        costs = most.low;
        cost = most.high;
      },
      rw to_13 at most.rest,
    )

-- What stands in a task's field.
pub record TaskRead (s : Bytes) (at : ℕ) : Type 0 where
  -- What both tags have;
  pub values : TaskValues s at
  -- where it is fed from outside, a period and a jitter within the limits;
  pub events : (M : Stream) → (task_at s at).source ≡ outside M → (1 ≤ M.P) × (M.P ≤ most_ticks) × (M.J ≤ most_ticks)
  -- where a task feeds it, one that the head counts.
  pub feeder : (j : ℕ) → (task_at s at).source ≡ fed j → j ≤ tasks_of s - 1

-- A 21 is fed by the task that it names,
pub source_fed : (s : Bytes) (at : ℕ) → eqb (tag_at s at) 0x21 ≡ true → (task_at s at).source ≡ fed (number s (at + 13) 1)
unfolding task_at source_at
source_fed s at tag = rw tag

-- and any other task from outside.
pub source_outside : (s : Bytes) (at : ℕ) → eqb (tag_at s at) 0x21 ≡ false
    → (task_at s at).source ≡ outside (stream_at s at)
unfolding task_at source_at
source_outside s at tag = rw tag

-- Where a 21 passes, its field says that,
fed_read : (s : Bytes) (at : ℕ) → eqb (tag_at s at) 0x21 ≡ true → fed_field s at ≡ passed → TaskRead s at
unfolding fed_field
fed_read s at tag e =
    let both = values_read s at _ (field_read _ _ _ _ _ _ e).held in
    let task = in_range s (at + 13) _ _ _ _ both.1 in
    let source = source_fed s at tag in
    record {
      values = both.0;
      events = λ M is. let z : ◌≡◌ {A = ℕ} 0 1 = cc in absurd (omega arith);
      feeder = λ j is. let named : j ≡ number s (at + 13) 1 = cc in rw named task.high;
    }

-- where a 20 passes, its field does,
outside_read : (s : Bytes) (at : ℕ) → eqb (tag_at s at) 0x21 ≡ false → outside_field s at ≡ passed → TaskRead s at
unfolding outside_field stream_at
outside_read s at tag e =
    let both = values_read s at _ (field_read _ _ _ _ _ _ e).held in
    let to_17 : at + 13 + 4 ≡ at + 17 = omega arith in
    let period = in_range s (at + 13) _ _ _ _ both.1 in
    let jitter = in_range s (at + 17) _ _ _ _ (rw to_17 at period.rest) in
    let source = source_outside s at tag in
    record {
      values = both.0;
      events = λ M is. let own : M ≡ stream_at s at = cc in rw own (period.low, period.high, jitter.high);
      feeder = λ j is. let z : ◌≡◌ {A = ℕ} 0 1 = cc in absurd (omega arith);
    }

-- and so does a task's: "A task is a 20 or a 21."
pub task_read : (s : Bytes) (at : ℕ) → task_field s at ≡ passed → TaskRead s at
unfolding task_field
task_read s at e =
    ⊎_elim (λ f. fed_read s at f.0 f.1) (λ o. outside_read s at o.0 o.1)
    (cond_passed (eqb (tag_at s at) 0x21) (fed_field s at) (outside_field s at) e)

-- What stands in a path's field.
pub record PathRead (s : Bytes) (at : ℕ) : Type 0 where
  -- Its deadline is not 0 and fits four bytes,
  pub deadline : 1 ≤ number s (at + 3) 4
  pub fits : number s (at + 3) 4 ≤ 0xFFFF_FFFF
  -- it has 1 task or more, and not too many, inside the plan,
  pub short : 4 + 1 ≤ length_at s at
  pub long : length_at s at ≤ 4 + most_steps
  pub room : at + 3 + length_at s at ≤ length s
  -- and the head counts each of them.
  pub steps : (i : ℕ) → i < length_at s at - 4 → get_or s (at + 7 + i) 0 ≤ tasks_of s - 1

-- Where a path's field passes, it says that.
pub path_read : (s : Bytes) (at : ℕ) → path_field s at ≡ passed → PathRead s at
unfolding path_field
path_read s at e =
    let to_7 : at + 3 + 4 ≡ at + 7 = omega arith in
    let path = field_read s at 0x30 _ _ _ e in
    let deadline = in_range s (at + 3) _ _ _ _ path.held in
    record {
      deadline = deadline.low;
      fits = deadline.high;
      short = path.short;
      long = path.long;
      room = path.room;
      steps = λ i h. (in_ranges_pass s (at + 7) _ _ _ (rw to_7 at deadline.rest) i h).1;
    }

module _ (s : Bytes) (reads : read s ≡ passed) where
  -- A plan that reads has such a head,
  pub read_head : HeadRead s
  unfolding due_field place
  read_head = head_read s (due_passed s reads 0 (omega arith))

  -- such tasks
  pub read_task : (k : ℕ) → k < tasks_of s → TaskRead s (task_place s k)
  read_task k h = task_read s (task_place s k)
      (rw (due_task s k (task_place s k) h) at (due_passed s reads (1 + controllers_of s + k) (omega arith)))

  -- and such paths.
  pub read_path : (q : ℕ) → q < paths_of s → PathRead s (path_place s q)
  read_path q h = path_read s (path_place s q)
      (rw (due_path s q (path_place s q)) at (due_passed s reads (1 + controllers_of s + tasks_of s + q) (omega arith)))
