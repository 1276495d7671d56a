-- The figures in which the sweeps of a plan settle.
use Rattle.std.proofs.Common.{ℕ, ◌≤◌, ◌<◌, ◌≡◌, ap, ◌∙◌, List, length, get_or}
use Rattle.paper.specs.Limits.{most_ticks}
use Rattle.paper.specs.Tables.{Plan}
use Rattle.paper.specs.Sets.{inputs}
use Rattle.paper.specs.Report.{Figures}
use Rattle.paper.specs.Answer.{Reported}
use Rattle.theory.specs.Task.Preemptive.{bounded_most}
use Rattle.theory.specs.Plans.Sound.{Sound}
use Rattle.theory.specs.Sweeps.Climbs.{proper}
use Rattle.plan.specs.declared.tasks.Task.{Task}
use Rattle.plan.proofs.Rows.{length_tabulate, tabulate_at}
use Rattle.sweep.specs.declared.once.Figure.{Figure}
use Rattle.sweep.specs.Ends.{figure_of}
use Rattle.bench.specs.Tabled.{Settling}

-- The bounds of a report are within limits,
pub bound_most : {p : Plan} {f : Figures} → Sound p → Reported p f → (k : ℕ) → k < p.tasks → f.R k ≤ most_ticks
bound_most {p} {f} sound r k h = bounded_most (proper p sound (inputs p f.R) k h) (r.bounded k h)

-- and so are the input jitters.
pub input_most : {p : Plan} {f : Figures} → Reported p f → (k : ℕ) → k < p.tasks → (inputs p f.R k).J ≤ most_ticks
input_most r k h = (r.bounded k h).within.input

module _ {p : Plan} {f : Figures} {tasks : List Task} {settled : List Figure} (so : Settling p f tasks settled) where
  -- There are figures for each task,
  pub settled_counted : length settled ≡ p.tasks
  settled_counted = ap length so.rows ∙ length_tabulate _ _

  -- its own.
  pub settled_is : (k : ℕ) (d : Figure) → k < p.tasks → get_or settled k d ≡ figure_of p f k
  settled_is k d h = ap (λ rows. get_or rows k d) so.rows ∙ tabulate_at _ _ k d h
