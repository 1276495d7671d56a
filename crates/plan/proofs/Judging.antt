-- How the rows of the document's table are judged: each value at its place behind the tag.
use Rattle.std.proofs.Common.{ℕ, ◌+◌, ◌-◌, ◌≡◌, [], add_assoc, replicate}
use Rattle.paper.specs.Words.{within}
use Rattle.paper.specs.Limits.{most_controllers, most_tasks, most_paths, most_steps, most_cost, most_ticks}
use Rattle.paper.specs.Bytes.{Bytes, number}
use Rattle.paper.specs.Fields.{Judged, ◌and_then◌, unless, byte, in_ranges, header, field, controllers_of, tasks_of}
use Rattle.paper.specs.Fields.{length_at, head_field, controller_field, task_values, outside_field, fed_field, path_field}
use Rattle.plan.proofs.Chain.{and_then_assoc, and_then_passed, passed_and_then, refused_and_then, chain}

-- What a value of so many bytes is judged to be.
abbrev pub in_range : Bytes → (width at least most : ℕ) → Judged
in_range s width at least most = unless (within least (number s at width) most) 5 at

-- The head,
pub judged_head : (s : Bytes) (at : ℕ) →
    head_field s at
    ≡ header s at 0x01 4 4
    and_then in_range s 1 (at + 3) 1 1
    and_then in_range s 1 (at + 4) 1 most_controllers
    and_then in_range s 1 (at + 5) 1 most_tasks
    and_then in_range s 1 (at + 6) 0 most_paths
unfolding head_field field in_ranges
judged_head s at = simp (chain, add_assoc)

-- a controller,
pub judged_controller : (s : Bytes) (at own : ℕ) →
    controller_field s at own
    ≡ header s at 0x10 2 2 and_then in_range s 1 (at + 3) own own and_then in_range s 1 (at + 4) 1 1
unfolding controller_field field in_ranges
judged_controller s at own = simp (chain, add_assoc)

-- what every task has,
pub judged_task : (s : Bytes) (at : ℕ) →
    in_ranges s (at + 3) (task_values s at [])
    ≡ in_range s 1 (at + 3) 0 (controllers_of s - 1)
    and_then in_range s 1 (at + 4) 0 255
    and_then in_range s 4 (at + 5) 1 most_cost
    and_then in_range s 4 (at + 9) (number s (at + 5) 4) most_cost
unfolding task_values in_ranges
judged_task s at = simp (chain, add_assoc)

-- a task that is fed from outside,
pub judged_outside : (s : Bytes) (at : ℕ) →
    outside_field s at
    ≡ header s at 0x20 18 18
    and_then in_ranges s (at + 3) (task_values s at [])
    and_then in_range s 4 (at + 13) 1 most_ticks
    and_then in_range s 4 (at + 17) 0 most_ticks
unfolding outside_field field task_values in_ranges
judged_outside s at = simp (chain, add_assoc)

-- a task that another one feeds,
pub judged_fed : (s : Bytes) (at : ℕ) →
    fed_field s at
    ≡ header s at 0x21 11 11
    and_then in_ranges s (at + 3) (task_values s at [])
    and_then in_range s 1 (at + 13) 0 (tasks_of s - 1)
unfolding fed_field field task_values in_ranges
judged_fed s at = simp (chain, add_assoc)

-- and a path.
pub judged_path : (s : Bytes) (at : ℕ) →
    path_field s at
    ≡ header s at 0x30 5 (4 + most_steps)
    and_then in_range s 4 (at + 3) 1 0xFFFF_FFFF
    and_then in_ranges s (at + 7) (replicate (length_at s at - 4) (byte 0 (tasks_of s - 1)))
unfolding path_field field in_ranges
judged_path s at = simp add_assoc

-- How a row of the table is judged, and what brings its judges into one order.
pub ruleset judging = (
  judged_head,
  judged_controller,
  judged_task,
  judged_outside,
  judged_fed,
  judged_path,
  and_then_assoc,
  and_then_passed,
  passed_and_then,
  refused_and_then,
)
