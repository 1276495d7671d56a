-- The plan that a reading gives: controllers, tasks, links, paths.
use Rattle.std.specs.Prelude.{ℕ, ◌+◌, ◌-◌, List, cond, eqb, take, drop}
use Rattle.paper.specs.Bytes.{Bytes, number}
use Rattle.paper.specs.Fields.{controllers_of, tasks_of, paths_of, tag_at, length_at, place}
use Rattle.paper.specs.Streams.{Stream}

-- What activates a task: events of a stream from outside, or each completion of its feeder.
pub data Source : Type 0 where
  outside : Stream → Source
  fed : (feeder : ℕ) → Source

-- A task: its controller, its priority (smaller is more urgent), C-, C+ and its source.
pub record Task : Type 0 where
  pub controller : ℕ
  pub priority : ℕ
  pub C- : ℕ
  pub C+ : ℕ
  pub source : Source

-- A plan: how many controllers, tasks and paths, and each task's and each path's own. Only numbers below the counts matter.
pub record Plan : Type 0 where
  pub controllers : ℕ
  pub tasks : ℕ
  pub paths : ℕ
  pub task : ℕ → Task
  pub deadline : ℕ → ℕ
  pub path : ℕ → List ℕ

-- The stream of a 20 whose field is at a place: its period and its jitter.
unfoldable pub stream_at : Bytes → ℕ → Stream
stream_at s at = record { P = number s (at + 13) 4; J = number s (at + 17) 4 }

-- What feeds a task whose field is at a place.
unfoldable pub source_at : Bytes → ℕ → Source
source_at s at = cond (eqb (tag_at s at) 0x21) (fed (number s (at + 13) 1)) (outside (stream_at s at))

-- The task whose field is at a place.
unfoldable pub task_at : Bytes → ℕ → Task
task_at s at =
    record {
      controller = number s (at + 3) 1;
      priority = number s (at + 4) 1;
      C- = number s (at + 5) 4;
      C+ = number s (at + 9) 4;
      source = source_at s at;
    }

-- Where the field of task k begins.
abbrev pub task_place : Bytes → ℕ → ℕ
task_place s k = place s (1 + controllers_of s + k)

-- Where the field of path q begins.
abbrev pub path_place : Bytes → ℕ → ℕ
path_place s q = place s (1 + controllers_of s + tasks_of s + q)

-- The part of the plan that holds the task numbers of the path whose field is at a place.
unfoldable pub part_at : Bytes → ℕ → Bytes
part_at s at = take (length_at s at - 4) (drop (at + 7) s)

-- The plan that reading the bytes gives.
unfoldable pub plan_of : Bytes → Plan
plan_of s =
    record {
      controllers = controllers_of s;
      tasks = tasks_of s;
      paths = paths_of s;
      task = λ k. task_at s (task_place s k);
      deadline = λ q. number s (path_place s q + 3) 4;
      path = λ q. part_at s (path_place s q);
    }
