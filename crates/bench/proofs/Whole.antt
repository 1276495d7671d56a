-- The report of rows that hold a plan's figures is the plan's report.
use Rattle.std.proofs.Common.{ℕ, ◌<◌, ◌≡◌, refl}
use Rattle.paper.specs.Tables.{Plan}
use Rattle.paper.specs.Report.{Figures, task_report, path_report, report, report_length}
use Rattle.theory.specs.Outcomes.Same.{each_same}
use Rattle.plan.specs.Tables.{tabulate}
use Rattle.plan.proofs.Rows.{length_tabulate, tabulate_at}
use Rattle.report.specs.Figured.{no_task, no_path, of_task, of_path, task_row, path_row, whole_of, long_of}
use Rattle.bench.specs.Rows.{task_figures, path_figures}

module _ (p : Plan) (f : Figures) where
  -- A task's row is its record.
  row_of_task : (k : ℕ) → k < p.tasks → task_row (tabulate p.tasks (task_figures p f)) k ≡ task_report p f k
  unfolding task_row of_task task_report
  row_of_task k h = rw (tabulate_at p.tasks (task_figures p f) k no_task h) refl

  -- A path's row is its record.
  row_of_path : (q : ℕ) → q < p.paths → path_row (tabulate p.paths (path_figures p f)) q ≡ path_report p f q
  unfolding path_row of_path path_report
  row_of_path q h = rw (tabulate_at p.paths (path_figures p f) q no_path h) refl

  -- The report of the rows is the plan's.
  pub whole : whole_of f.sweeps (tabulate p.tasks (task_figures p f)) (tabulate p.paths (path_figures p f)) ≡ report p f
  unfolding whole_of report
  whole =
      rw (
        length_tabulate p.tasks (task_figures p f),
        length_tabulate p.paths (path_figures p f),
        each_same p.tasks (task_row (tabulate p.tasks (task_figures p f))) (task_report p f) row_of_task,
        each_same p.paths (path_row (tabulate p.paths (path_figures p f))) (path_report p f) row_of_path,
      )
      refl

  -- It is as long.
  pub whole_long : long_of (tabulate p.tasks (task_figures p f)) (tabulate p.paths (path_figures p f)) ≡ report_length p
  unfolding report_length
  whole_long = rw (length_tabulate p.tasks (task_figures p f), length_tabulate p.paths (path_figures p f)) refl
