-- The tables: a plan's tasks and its paths, a row for each.
use Rattle.std.specs.Prelude.{ℕ, zero, suc, ◌+◌, ◌-◌, ◌<◌, ◌≡◌, List, [], ◌∷◌, min, length, get_or}
use Rattle.paper.specs.Limits.{most_tasks, most_paths}
use Rattle.paper.specs.Bytes.{Bytes, number}
use Rattle.paper.specs.Fields.{passed, paths_of, length_at}
use Rattle.paper.specs.Tables as Tables
use Rattle.paper.specs.Tables.{outside, fed, Plan, plan_of, path_place}
use Rattle.paper.specs.Refusals.{read}
use Rattle.stream.specs.Model.{model_of}
use Rattle.plan.specs.declared.tasks.Source.{Source}
use Rattle.plan.specs.declared.tasks.Source.TheVariants.{Outside, Fed}
use Rattle.plan.specs.declared.tasks.Task.{Task}
use Rattle.plan.specs.declared.paths.Path.{Path}

module _ {A : Type 0} where
  -- The list of f at the numbers below n.
  unfoldable pub tabulate : ℕ → (ℕ → A) → List A
  tabulate zero f = []
  tabulate (suc n) f = f zero ∷ tabulate n (λ k. f (suc k))

-- The source that a row holds, as the document has it.
abbrev pub source_of : Source → Tables.Source
source_of (Outside M) = outside (model_of M)
source_of (Fed j) = fed j.0

-- The task that a row holds, as the document has it.
abbrev pub task_of : Task → Tables.Task
task_of t =
    record {
      controller = t.controller.0;
      priority = t.priority;
      C- = t.least.0;
      C+ = t.most.0;
      source = source_of t.source;
    }

-- A source as a row holds it.
abbrev pub source_row : Tables.Source → Source
source_row (outside M) = Outside (record { period = record { 0 = M.P }; jitter = record { 0 = M.J } })
source_row (fed j) = Fed (record { 0 = j })

-- A task as a row.
abbrev pub row_of : Tables.Task → Task
row_of t =
    record {
      controller = record { 0 = t.controller };
      priority = t.priority;
      least = record { 0 = t.C- };
      most = record { 0 = t.C+ };
      source = source_row t.source;
    }

-- What stands past the last row: a task that task 0 feeds, all numbers 0.
abbrev pub blank : Task
blank = row_of (record { controller = 0; priority = 0; C- = 0; C+ = 0; source = fed 0 })

-- The task that row k holds.
abbrev pub task_at : List Task → ℕ → Tables.Task
task_at rows k = task_of (get_or rows k blank)

-- A plan's tasks as rows, as many as there is room for.
unfoldable pub task_rows : Plan → List Task
task_rows p = tabulate (min p.tasks most_tasks) (λ k. row_of (p.task k))

-- The row of the path whose field is at a place: its deadline, and where the part of the plan that holds its task numbers
-- begins and how many there are.
unfoldable pub path_row : Bytes → ℕ → Path
path_row s at = record { deadline = record { 0 = number s (at + 3) 4 }; part = record { from = at + 7; steps = length_at s at - 4 } }

-- A plan's paths as rows, as many as there is room for.
unfoldable pub path_rows : Bytes → List Path
path_rows s = tabulate (min (paths_of s) most_paths) (λ q. path_row s (path_place s q))

-- The rows are read off a plan that reads.
pub record ReadOff (s : Bytes) (rows : List Task) (paths : List Path) : Type 0 where
  pub reads : read s ≡ passed
  pub tasks : rows ≡ task_rows (plan_of s)
  pub parts : paths ≡ path_rows s

-- The rows tell the tasks of the plan p.
pub record Told (p : Plan) (rows : List Task) : Type 0 where
  pub count : length rows ≡ p.tasks
  pub tasks : (k : ℕ) → k < p.tasks → task_at rows k ≡ p.task k
