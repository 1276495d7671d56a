-- What the rows of a well-formed plan satisfy.
use Rattle.std.proofs.Common.{ℕ, ◌+◌, ◌*◌, ◌≤◌, ◌<◌, ◌≡◌, refl, ap, sym, ◌∙◌, List, arith, length, get_or}
use Rattle.paper.specs.Words.{count}
use Rattle.paper.specs.Limits.{most_tasks, most_paths, most_sharing}
use Rattle.paper.specs.Bytes.{Bytes}
use Rattle.paper.specs.Fields.{controllers_of}
use Rattle.paper.specs.Tables.{plan_of}
use Rattle.paper.specs.Refusals.{rules, WellFormed}
use Rattle.paper.specs.Report.{Figures, report_length}
use Rattle.theory.specs.Plans.Sound.{Sound, Ranged}
use Rattle.theory.specs.Plans.Inputs.{period_most}
use Rattle.theory.specs.Plans.WellFormed.{well_formed→sound, well_formed→ranged}
use Rattle.stream.specs.declared.kinds.Ticks.{Ticks}
use Rattle.plan.specs.Tables.{tabulate, path_rows}
use Rattle.plan.specs.declared.tasks.Task.{Task}
use Rattle.plan.specs.declared.paths.Path.{Path}
use Rattle.plan.proofs.Rows.{length_tabulate, tabulate_at}
use Rattle.load.specs.Shares.{no_share, on_in, Shares}
use Rattle.load.specs.Shares as Load
use Rattle.load.specs.declared.Share.{Share}
use Rattle.load.proofs.Shares.{uncrowded}
use Rattle.sweep.specs.Rows.{per_task, period_of}
use Rattle.sweep.specs.Planned.{Planned}
use Rattle.sweep.specs.Ends.{Settled}
use Rattle.sweep.specs.declared.once.Figure.{Figure}
use Rattle.sweep.proofs.Rows.{counted}
use Rattle.report.specs.Figured.{long_of}
use Rattle.report.specs.declared.figures.TaskFigures.{TaskFigures}
use Rattle.report.specs.declared.figures.PathFigures.{PathFigures}
use Rattle.bench.specs.Rows.{task_figures, path_figures}
use Rattle.bench.specs.Rows.{share_row}
use Rattle.bench.specs.Tabled.{Tabled, Timed, Settling, Pathed}
use Rattle.bench.proofs.Whole.{whole_long}

module _ {s : Bytes} (well : WellFormed s) where
  -- The plan is sound,
  sound : Sound (plan_of s)
  sound = well_formed→sound s well

  -- and fits the machine.
  ranged : Ranged (plan_of s)
  ranged = well_formed→ranged s well

  -- The report of a plan's figures has room where the plan's has.
  pub report_room : (f : Figures) {room : ℕ} {tasks : List TaskFigures} {paths : List PathFigures}
      → report_length (plan_of s) ≤ room → tasks ≡ tabulate (plan_of s).tasks (task_figures (plan_of s) f)
      → paths ≡ tabulate (plan_of s).paths (path_figures (plan_of s) f)
      → (length tasks ≤ most_tasks) × (length paths ≤ most_paths) × (long_of tasks paths ≤ room)
  report_room f enough tasks paths =
      rw (tasks, paths)
      (omega (
        arith,
        ranged.tasks,
        ranged.paths,
        length_tabulate (plan_of s).tasks (task_figures (plan_of s) f),
        length_tabulate (plan_of s).paths (path_figures (plan_of s) f),
        whole_long (plan_of s) f,
      ))

  module _ {shares : List Share} {controllers : ℕ} (rows : shares ≡ per_task (plan_of s) (share_row (plan_of s)))
      (heads : controllers ≡ controllers_of s) where
    -- There is a share for each task,
    shares_are : length shares ≡ (plan_of s).tasks
    shares_are = ap length rows ∙ length_tabulate _ _

    -- its own.
    share_is : (k : ℕ) → k < length shares → get_or shares k no_share ≡ share_row (plan_of s) k
    share_is k h = ap (λ xs. get_or xs k no_share) rows ∙ tabulate_at _ _ k no_share (omega (arith, shares_are))

    -- So the shares are the plan's,
    pub shared : Shares (plan_of s) controllers shares
    unfolding plan_of
    shared =
        record {
          controllers_are = sym heads;
          tasks_are = sym shares_are;
          controller_of = λ k h. ap (λ (t : Share). t.controller.0) (share_is k h);
          cost_of = λ k h. ap (λ (t : Share). t.cost.0) (share_is k h);
          period_is = λ k h. ap (λ (t : Share). t.period.0) (share_is k h);
        }

    -- in range,
    pub shares_ranged : Load.Ranged shares
    shares_ranged =
        record {
          few = omega (arith, shares_are, ranged.tasks);
          costs = λ k h.
              omega (arith, shared.cost_of k h, ranged.cost k (omega (arith, shares_are)));
          ticks = λ k h.
              omega (arith, shared.period_is k h, period_most sound ranged k (omega (arith, shares_are)));
        }

    -- and no controller has too many tasks.
    pub shares_few : (c : ℕ) → c < controllers → count (length shares) (on_in shares c) ≤ most_sharing
    unfolding rules
    shares_few = uncrowded shared well.sound.1.1.1.0

module _ {s : Bytes} {tasks : List Task} {paths : List Path} (so : Tabled s tasks paths) where
  -- The rows are those of a sound plan that fits the machine.
  pub planned : Planned (plan_of s) tasks
  planned = record { sound = sound so.well; ranged = ranged so.well; rows = so.rows }

  -- There is a row for each path.
  paths_are : length paths ≡ (plan_of s).paths
  unfolding path_rows plan_of
  paths_are = ap length so.parts ∙ length_tabulate _ _ ∙ omega (arith, (ranged so.well).paths)

  -- There are as many rows as limits allow, at most,
  pub few : (length tasks ≤ most_tasks) × (length paths ≤ most_paths)
  few = omega (arith, counted planned, paths_are, (ranged so.well).tasks, (ranged so.well).paths)

  -- and the report is as long as they say.
  pub long : 14 + 22 * length tasks + 29 * length paths ≡ report_length (plan_of s)
  unfolding report_length
  long = rw (counted planned, paths_are) refl

  -- Beside the rows of the tasks stand the periods,
  pub timed : {periods rows : List Ticks} → rows ≡ periods → periods ≡ per_task (plan_of s) (period_of (plan_of s))
      → Timed (plan_of s) tasks rows
  timed same periods = record { planned = planned; rows = same ∙ periods }

  -- and the figures in which the sweeps settled,
  pub settling : {sweep : ℕ} {figures rows : List Figure} → (settled : Settled (plan_of s) sweep figures) → rows ≡ figures
      → Settling (plan_of s) settled.figures tasks rows
  settling settled same = record { planned = planned; reported = settled.reported; rows = same ∙ settled.rows }

  -- and beside those of the paths the tasks' figures in the report.
  pub pathed : {sweep : ℕ} {figures : List Figure} {rows : List TaskFigures} → (settled : Settled (plan_of s) sweep figures)
      → rows ≡ per_task (plan_of s) (task_figures (plan_of s) settled.figures) → Pathed s settled.figures paths rows
  pathed settled rows = record { well = so.well; parts = so.parts; reported = settled.reported; rows = rows }
