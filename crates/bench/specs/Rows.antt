-- What the rows that are worked out for a plan hold: its tasks' shares of the loads, and the figures of its report.
use Rattle.std.specs.Prelude.{ℕ}
use Rattle.paper.specs.Tables.{Plan}
use Rattle.paper.specs.Windows.{output}
use Rattle.paper.specs.Sets.{inputs}
use Rattle.paper.specs.Report.{Figures, best, worst}
use Rattle.load.specs.declared.Share.{Share}
use Rattle.sweep.specs.Rows.{period_of}
use Rattle.report.specs.declared.figures.TaskFigures.{TaskFigures}
use Rattle.report.specs.declared.figures.PathFigures.{PathFigures}

-- A task's share: its controller, its C+ and its period.
abbrev pub share_row : Plan → ℕ → Share
share_row p k =
    record {
      controller = record { 0 = (p.task k).controller };
      cost = record { 0 = (p.task k).C+ };
      period = period_of p k;
    }

-- A task's figures: R-, R+, input jitter, output jitter, jobs looked at.
abbrev pub task_figures : Plan → Figures → ℕ → TaskFigures
task_figures p f k =
    record {
      least = record { 0 = (p.task k).C- };
      bound = record { 0 = f.R k };
      input = record { 0 = (inputs p f.R k).J };
      output = record { 0 = (output (p.task k).C- (inputs p f.R k) (f.R k)).J };
      jobs = record { 0 = f.jobs k };
    }

-- A path's figures: deadline, best, worst.
abbrev pub path_figures : Plan → Figures → ℕ → PathFigures
path_figures p f q =
    record { deadline = record { 0 = p.deadline q }; best = record { 0 = best p q }; worst = record { 0 = worst p f.R q } }
