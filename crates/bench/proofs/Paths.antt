-- The paths of a well-formed plan, by their rows.
use Rattle.std.proofs.Common.{ℕ, ◌+◌, ◌≤◌, ◌<◌, ◌≡◌, refl, ap, ◌∙◌, arith, List, length, get_or, take, drop}
use Rattle.paper.specs.Bytes.{Bytes}
use Rattle.paper.specs.Tables.{plan_of, path_place, part_at}
use Rattle.paper.specs.Report.{Figures, along, best, worst}
use Rattle.theory.specs.Plans.Sound.{Sound, Ranged}
use Rattle.theory.specs.Plans.Values.{read_path}
use Rattle.theory.specs.Plans.WellFormed.{well_formed→sound, well_formed→ranged}
use Rattle.theory.specs.Outcomes.Same.{along_same}
use Rattle.plan.specs.declared.paths.Path.{Path}
use Rattle.plan.specs.Tables.{path_row, path_rows}
use Rattle.plan.proofs.Rows.{length_tabulate, tabulate_at}
use Rattle.report.specs.Figured.{no_task}
use Rattle.report.specs.declared.figures.TaskFigures.{TaskFigures}
use Rattle.bench.specs.Rows.{task_figures}
use Rattle.bench.specs.Sums.{least_in, bound_in, Summable}
use Rattle.bench.specs.Tabled.{Pathed}
use Rattle.bench.proofs.Settled.{bound_most}

module _ {s : Bytes} {f : Figures} {paths : List Path} {tasks : List TaskFigures} (so : Pathed s f paths tasks) where
  -- The plan is sound,
  sound : Sound (plan_of s)
  sound = well_formed→sound s so.well

  -- and fits the machine.
  pub ranged : Ranged (plan_of s)
  ranged = well_formed→ranged s so.well

  -- There is a row for each path,
  pub paths_counted : length paths ≡ (plan_of s).paths
  unfolding path_rows plan_of
  paths_counted = ap length so.parts ∙ length_tabulate _ _ ∙ omega (arith, ranged.paths)

  -- its own.
  pub path_is : (q : ℕ) (d : Path) → q < (plan_of s).paths → get_or paths q d ≡ path_row s (path_place s q)
  unfolding path_rows plan_of
  path_is q d h = ap (λ rows. get_or rows q d) so.parts ∙ tabulate_at _ _ q d (omega (arith, ranged.paths))

  -- A path's part lies inside the plan,
  pub inside : (q : ℕ) → q < (plan_of s).paths
      → (path_row s (path_place s q)).part.from + (path_row s (path_place s q)).part.steps ≤ length s
  unfolding path_row plan_of
  inside q h = let path = read_path s so.well.reads q h in omega (arith, path.room, path.short)

  -- and holds the path,
  pub part_is : (q : ℕ)
      → take (path_row s (path_place s q)).part.steps (drop (path_row s (path_place s q)).part.from s) ≡ (plan_of s).path q
  unfolding path_row plan_of part_at
  part_is q = refl

  -- which has the row's deadline.
  pub deadline_is : (q : ℕ) → (path_row s (path_place s q)).deadline.0 ≡ (plan_of s).deadline q
  unfolding path_row plan_of
  deadline_is q = refl

  -- Beside the paths stand the figures of each task.
  figures_at : (k : ℕ) → k < (plan_of s).tasks → get_or tasks k no_task ≡ task_figures (plan_of s) f k
  figures_at k h = ap (λ rows. get_or rows k no_task) so.rows ∙ tabulate_at _ _ k no_task h

  -- as many as there are tasks.
  figures_counted : length tasks ≡ (plan_of s).tasks
  figures_counted = ap length so.rows ∙ length_tabulate _ _

  -- R- and R+ can be summed along a path.
  pub summable : (q : ℕ) → q < (plan_of s).paths → Summable ((plan_of s).path q) tasks
  summable q h =
      record {
        few = ranged.path q h;
        steps = λ i l. omega (arith, sound.steps q i h l, figures_counted);
        least = λ k l.
            let in_plan : k < (plan_of s).tasks = omega (arith, figures_counted) in
            let is : least_in tasks k ≡ ((plan_of s).task k).C- = ap (λ (t : TaskFigures). t.least.0) (figures_at k in_plan) in
            omega (arith, is, sound.costs k in_plan, ranged.cost k in_plan);
        bounds = λ k l.
            let in_plan : k < (plan_of s).tasks = omega (arith, figures_counted) in
            let is : bound_in tasks k ≡ f.R k = ap (λ (t : TaskFigures). t.bound.0) (figures_at k in_plan) in
            omega (arith, is, bound_most sound so.reported k in_plan);
      }

  -- The one sum is the best time along the path,
  pub best_is : (q : ℕ) → q < (plan_of s).paths → along ((plan_of s).path q) (least_in tasks) ≡ best (plan_of s) q
  best_is q h = along_same _ _ _ (λ i l. ap (λ (t : TaskFigures). t.least.0) (figures_at _ (sound.steps q i h l)))

  -- and the other the worst.
  pub worst_is : (q : ℕ) → q < (plan_of s).paths → along ((plan_of s).path q) (bound_in tasks) ≡ worst (plan_of s) f.R q
  worst_is q h = along_same _ _ _ (λ i l. ap (λ (t : TaskFigures). t.bound.0) (figures_at _ (sound.steps q i h l)))
