-- What the tests of refusals 7 to 10 ask of rows.
use Rattle.std.specs.Prelude.{ℕ, ◌+◌, ◌≤◌, ◌<◌, List, Bool, true, false, length, get_or, take, drop}
use Rattle.paper.specs.Tables.{Source, outside, fed}
use Rattle.plan.specs.declared.tasks.Task.{Task}
use Rattle.plan.specs.declared.paths.Path.{Path}
use Rattle.plan.specs.Tables.{task_at}

-- Whether a source is another task.
abbrev pub is_fed : Source → Bool
is_fed (outside M) = false
is_fed (fed j) = true

-- The feeder of a source, 0 where there is none.
abbrev pub feeder_of : Source → ℕ
feeder_of (outside M) = 0
feeder_of (fed j) = j

-- What rows hold of task k: its controller,
abbrev pub controller_in : List Task → ℕ → ℕ
controller_in rows k = (task_at rows k).controller

-- its priority,
abbrev pub priority_in : List Task → ℕ → ℕ
priority_in rows k = (task_at rows k).priority

-- whether a task feeds it,
abbrev pub fed_in : List Task → ℕ → Bool
fed_in rows k = is_fed (task_at rows k).source

-- and which one.
abbrev pub feeder_in : List Task → ℕ → ℕ
feeder_in rows k = feeder_of (task_at rows k).source

-- Every feeder is the number of a row.
abbrev pub FeedersIn : List Task → Type 0
FeedersIn rows = (k : ℕ) → k < length rows → feeder_in rows k < length rows

-- The numbers of a path are those of so many tasks.
abbrev pub StepsIn : List ℕ → ℕ → Type 0
StepsIn path tasks = (i : ℕ) → i < length path → get_or path i 0 < tasks

-- What stands past the last path: no task numbers, and all numbers 0.
abbrev pub no_path : Path
no_path = record { deadline = record { 0 = 0 }; part = record { from = 0; steps = 0 } }

-- The part of a plan that holds the task numbers of a path's row.
abbrev pub part_in : List ℕ → Path → List ℕ
part_in plan row = take row.part.steps (drop row.part.from plan)

-- The part of a plan that holds the task numbers of a path's row lies inside the plan, and holds numbers of so many tasks.
pub record IsPart (plan : List ℕ) (tasks : ℕ) (row : Path) : Type 0 where
  pub inside : row.part.from + row.part.steps ≤ length plan
  pub steps : StepsIn (part_in plan row) tasks

-- So do the parts of all the paths of rows.
abbrev pub Parts : List ℕ → ℕ → List Path → Type 0
Parts plan tasks rows = (q : ℕ) → q < length rows → IsPart plan tasks (get_or rows q no_path)
