-- How the sweeps end, and what they hand back.
use Rattle.std.specs.Prelude.{ℕ, ◌+◌, ◌-◌, ◌≤◌, ◌≡◌, List, [], Result, Ok, Err}
use Rattle.paper.specs.Words.{sum}
use Rattle.paper.specs.Tables.{Plan}
use Rattle.paper.specs.Sets as Sets
use Rattle.paper.specs.Sweeps.{Leaving}
use Rattle.paper.specs.Report.{Figures}
use Rattle.paper.specs.Answer.{Reported}
use Rattle.sweep.specs.declared.once.Left.{Left}
use Rattle.sweep.specs.declared.once.Figure.{Figure}
use Rattle.sweep.specs.Rows.{per_task, figure}

-- A task's figures, those of the report: its bound R+, its input stream and the jobs looked at.
abbrev pub figure_of : Plan → Figures → ℕ → Figure
figure_of p figures k = figure (figures.R k) (Sets.inputs p figures.R k) (figures.jobs k)

-- The sweeps settle in sweep number m: the rows hold the figures of the report.
pub record Settled (p : Plan) (m : ℕ) (written : List Figure) : Type 0 where
  pub figures : Figures
  pub reported : Reported p figures
  pub sweep : m ≡ figures.sweeps
  -- "It is never above 1 plus the sum over tasks of R+ - C+."
  pub few : m ≤ 1 + sum p.tasks (λ k. figures.R k - (p.task k).C+)
  pub rows : written ≡ per_task p (figure_of p figures)

-- The first sweep in which a task leaves the limits, and the lowest such task: there are no figures.
pub record Gone (p : Plan) (left : Left) (written : List Figure) : Type 0 where
  pub leaving : Leaving p left.sweep left.task.0
  pub rows : written ≡ []

-- What the end of the sweeps says of a plan and the rows of figures.
abbrev pub Ends : Plan → Result ℕ Left → List Figure → Type 0
Ends p (Ok m) rows = Settled p m rows
Ends p (Err left) rows = Gone p left rows
