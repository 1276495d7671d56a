-- The rows of a plan that reads: what the tests of refusals 7 to 10 may rest on, and what they come to.
use Rattle.std.proofs.Common.{ℕ, ◌<◌, arith, ◌≡◌, ◌∙◌, min, refl, ap, List, length, get_or}
use Rattle.paper.specs.Limits.{most_paths}
use Rattle.paper.specs.Bytes.{Bytes}
use Rattle.paper.specs.Fields.{Judged, passed, refused, ◌and_then◌, controllers_of, tasks_of, paths_of}
use Rattle.paper.specs.Tables.{Source, outside, fed, path_place, part_at, plan_of}
use Rattle.paper.specs.Refusals.{read, rules}
use Rattle.theory.specs.Plans.Values.{read_head, read_path}
use Rattle.theory.specs.Plans.WellFormed.{part_steps, read_feeders}
use Rattle.plan.specs.declared.tasks.Task.{Task}
use Rattle.plan.specs.declared.paths.Path.{Path}
use Rattle.plan.specs.Tables.{path_row, path_rows, ReadOff, Told}
use Rattle.plan.proofs.Rows.{length_tabulate, tabulate_at, told}
use Rattle.rules.specs.Judges.{Judges, unsound, sound}
use Rattle.rules.specs.Faults.{lowest, shares, endless, broken, crowded}
use Rattle.rules.specs.Rows.{feeder_of, controller_in, priority_in, fed_in, feeder_in, FeedersIn, Parts, no_path, part_in}
use Rattle.rules.proofs.Outcome.{Outcome, outcome_more, outcome_last}
use Rattle.rules.proofs.Deciding.{feeder_told, decides_7, decides_8, decides_9, decides_10}

-- What no refusal and a first refusal come to, for a plan that reads.
judges : (s : Bytes) (judged : Judged) → read s ≡ passed → Outcome (rules (plan_of s)) judged → Judges s judged
judges s passed reads o = sound (record { reads = reads; sound = o.none refl })
judges s (refused number place) reads o = unsound reads (o.first number place refl)

-- A feeder is the number of a task, and where there is none 0 is.
feeder_counted : (source : Source) (n : ℕ) → ((j : ℕ) → source ≡ fed j → j < n) → 0 < n → feeder_of source < n
feeder_counted (outside M) n below some = some
feeder_counted (fed j) n below some = below j refl

-- A plan that reads has as many paths as there are rows,
pub paths_are : (s : Bytes) → read s ≡ passed → length (path_rows s) ≡ paths_of s
unfolding path_rows
paths_are s reads =
    let all : min (paths_of s) most_paths ≡ paths_of s = omega (arith, (read_head s reads).paths) in
    length_tabulate _ _ ∙ all

-- and each path's row tells it.
pub path_told : (s : Bytes) → read s ≡ passed → (q : ℕ) → q < paths_of s → get_or (path_rows s) q no_path ≡ path_row s (path_place s q)
unfolding path_rows
path_told s reads q h = tabulate_at _ _ q no_path (omega (arith, (read_head s reads).paths))

module _ {s : Bytes} {tasks : List Task} {paths : List Path} (off : ReadOff s tasks paths) where
  -- The rows of tasks tell the plan's.
  pub tells : Told (plan_of s) tasks
  unfolding plan_of
  tells = rw off.tasks (told (plan_of s) (read_head s off.reads).tasks)

  -- There are as many rows of tasks as the head counts,
  pub tasks_count : length tasks ≡ tasks_of s
  unfolding plan_of
  tasks_count = tells.count

  -- and as many of paths.
  pub paths_count : length paths ≡ paths_of s
  paths_count = ap length off.parts ∙ paths_are s off.reads

  -- Every feeder in the rows is the number of a task.
  pub feeders : FeedersIn tasks
  unfolding plan_of
  feeders k h =
      let counted : k < tasks_of s = omega (arith, tasks_count) in
      rw (tasks_count, feeder_told tells k counted)
      (feeder_counted _ (tasks_of s) (λ j e. read_feeders s off.reads k j counted e) (read_head s off.reads).some_tasks)

  -- The part that a row gives to a path is the plan's.
  pub part_same : (q : ℕ) → q < paths_of s → part_in s (get_or paths q no_path) ≡ (plan_of s).path q
  unfolding path_row plan_of part_at
  part_same q h = rw (off.parts, path_told s off.reads q h)

  -- The tasks of a path are tasks of the plan.
  pub steps_counted : (q i : ℕ) → q < paths_of s → i < length ((plan_of s).path q) → get_or ((plan_of s).path q) i 0 < tasks_of s
  unfolding plan_of
  steps_counted q i h l =
      omega (arith, part_steps s (path_place s q) i (read_path s off.reads q h) l, (read_head s off.reads).some_tasks)

  -- The parts of the paths lie inside the plan and hold numbers of tasks.
  pub parts : Parts s (length tasks) paths
  unfolding path_row
  parts q h =
      let counted : q < paths_of s = omega (arith, paths_count) in
      record {
        inside =
            rw (off.parts, path_told s off.reads q counted)
            (omega (arith, (read_path s off.reads q counted).room, (read_path s off.reads q counted).short));
        steps = rw (part_same q counted, tasks_count) (λ i l. steps_counted q i counted l);
      }

  -- What refusals 7 to 10 come to.
  pub outcome : Judges s
      (lowest 7 (shares (controller_in tasks) (priority_in tasks)) (length tasks)
      and_then lowest 8 (endless (fed_in tasks) (feeder_in tasks) (length tasks)) (length tasks)
      and_then lowest 9 (λ q. broken (fed_in tasks) (feeder_in tasks) (part_in s (get_or paths q no_path))) (length paths)
      and_then lowest 10 (crowded (controller_in tasks) (length tasks)) (controllers_of s))
  unfolding rules plan_of
  outcome =
      rw (tasks_count, paths_count)
      (judges s _ off.reads
      (outcome_more 7 _ _ (decides_7 tells)
      (outcome_more 8 _ _ (decides_8 tells (read_feeders s off.reads))
      (outcome_more 9 _ _ (decides_9 tells _ part_same steps_counted)
      (outcome_last 10 _ _ (decides_10 tells))))))
