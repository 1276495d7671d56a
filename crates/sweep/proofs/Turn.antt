-- The sweeps over a plan's tasks, turn by turn: what is reached so far, and what one sweep more leads to.
use Rattle.std.proofs.Common.{ℕ, ◌+◌, ◌*◌, ◌≤◌, ◌<◌, ◌≡◌, refl, sym, ap, subst, ◌∙◌, add-one, arith, List, get_or, length}
use Rattle.std.proofs.Common.{ext_get_or}
use Rattle.paper.specs.Words.{IsLeast}
use Rattle.paper.specs.Limits.{most_ticks}
use Rattle.paper.specs.Tables.{Plan}
use Rattle.paper.specs.Windows.{Bounded, setting}
use Rattle.paper.specs.Sets.{inputs}
use Rattle.paper.specs.Sweeps.{Sweep, Settles, Leaves, Leaving}
use Rattle.paper.specs.Report.{Figures}
use Rattle.theory.specs.Plans.Inputs.{period_law, period_most}
use Rattle.theory.specs.Task.Preemptive.{bounded_most}
use Rattle.theory.specs.Sweeps.Climb.{Same}
use Rattle.theory.specs.Sweeps.Climbs.{proper, climbing}
use Rattle.theory.specs.Sweeps.Demand2.{
  Reached,
  reached_start,
  reached_settles,
  reached_next,
  reached_leaves,
  reached_most,
  settled_least,
  sweeps_few,
}
use Rattle.stream.specs.declared.model.EventModel.{EventModel}
use Rattle.plan.specs.declared.tasks.Task.{Task}
use Rattle.plan.proofs.Rows.{length_tabulate, tabulate_at}
use Rattle.sweep.specs.declared.once.Figure.{Figure}
use Rattle.sweep.specs.Rows.{per_task, stream_row, figure, no_figure, first_figure, bounds_of}
use Rattle.sweep.specs.Planned.{Planned, Bounding, Streaming}
use Rattle.sweep.specs.Works.{Upto}
use Rattle.sweep.specs.Ends.{figure_of, Settled}
use Rattle.sweep.proofs.Jitter.{some_period, jitter_small}

-- The input streams that a set gives have numbers in range.
pub streaming : {p : Plan} {tasks : List Task} {set : List Figure} {streams : List EventModel} → Bounding p tasks set
    → streams ≡ per_task p (stream_row (inputs p (bounds_of set))) → Streaming p (inputs p (bounds_of set)) tasks streams
streaming {set = set} b e =
    let so = b.planned in
    let R = bounds_of set in
    record {
      planned = so;
      streams = e;
      some_period = some_period so.sound R;
      short_period = λ k h. rw (period_law so.sound R k h) (period_most so.sound so.ranged k h);
      small_jitter = jitter_small so.sound so.ranged R b.capped;
    }

-- After m sweeps of a plan, each of which changed something, the set is reached.
pub record SoFar (p : Plan) (tasks : List Task) (set : List Figure) (m : ℕ) : Type 0 where
  pub bounding : Bounding p tasks set
  pub reached : Reached p m (bounds_of set)

-- Before the first sweep every R+ is C+.
pub so_far_start : {p : Plan} {tasks : List Task} {set : List Figure} → Planned p tasks → set ≡ per_task p (first_figure p)
    → SoFar p tasks set 0
so_far_start {p} {set = set} so e =
    let own : Same p.tasks (bounds_of set) (λ k. (p.task k).C+) =
    λ k h. ap (λ (rows : List Figure). bounds_of rows k) e ∙ ap (λ (f : Figure). f.bound.0) (tabulate_at _ _ k _ h) in
    record {
      bounding =
          record {
            planned = so;
            count = ap length e ∙ length_tabulate _ _;
            capped = λ k h. omega (arith, own k h, so.ranged.cost k h);
          };
      reached = reached_start p (bounds_of set) own;
    }

-- The figures of a report in which the sweeps settle in sweep number m.
abbrev report_of : (m : ℕ) (set new : List Figure) → Figures
report_of m set new = record { sweeps = m; R = bounds_of set; jobs = λ k. (get_or new k no_figure).jobs.0 }

module _ {p : Plan} {tasks : List Task} {set : List Figure} {m : ℕ} (far : SoFar p tasks set m) where
  -- No more sweeps are done than the bounds can grow by.
  pub so_far_few : m ≤ p.tasks * most_ticks
  so_far_few = reached_most p (climbing p far.bounding.planned.sound) far.reached

  -- Where a task leaves the limits, the sweep is the first in which one does, and the task the lowest.
  pub turn_leaves : {k : ℕ} → IsLeast (Leaves p (inputs p (bounds_of set))) k → Leaving p (m + 1) k
  turn_leaves o = rw (add-one m) (reached_leaves p (climbing p far.bounding.planned.sound) far.reached o)

  module _ {new : List Figure} (upto : Upto p (inputs p (bounds_of set)) p.tasks new) where
    -- Where none does, the sweep works out a set from the last.
    turn_sweep : Sweep p (bounds_of set) (bounds_of new)
    turn_sweep k h = ((get_or new k no_figure).jobs.0, (upto.each k h).bounded)

    -- If it changes something, by the sets as they are lent, one sweep more is done.
    pub turn_next : {a b : List Figure} → a ≡ set → b ≡ new → (Same (length a) (bounds_of a) (bounds_of b) → ⊥)
        → SoFar p tasks new (m + 1)
    turn_next e f differ =
        let so = far.bounding.planned in
        record {
          bounding =
              record {
                planned = so;
                count = upto.count;
                capped = λ k h.
                    bounded_most (proper p so.sound (inputs p (bounds_of set)) k h) (upto.each k h).bounded;
              };
          reached =
              rw (add-one m)
              (reached_next p (climbing p so.sound) (bounds_of new) far.reached turn_sweep (rw (e, f, far.bounding.count) at differ));
        }

    module _ (same : Same p.tasks (bounds_of set) (bounds_of new)) where
      -- If it changes nothing, the sweeps settle,
      turn_settles : Settles p (m + 1) (bounds_of set)
      turn_settles = rw (add-one m) (reached_settles p (bounds_of new) far.reached turn_sweep same)

      -- the figures worked out are those of the report,
      turn_rows : new ≡ per_task p (figure_of p (report_of (m + 1) set new))
      turn_rows =
          ext_get_or no_figure new _ (upto.count ∙ sym (length_tabulate _ _)) λ k l.
          let h : k < p.tasks = omega (arith, upto.count) in
          (λ i. figure (sym (same k h) i) ((upto.each k h).input i) (get_or new k no_figure).jobs.0)
          ∙ sym (tabulate_at p.tasks (figure_of p (report_of (m + 1) set new)) k no_figure h)

      -- and they are what is reported.
      turn_report : Settled p (m + 1) new
      turn_report =
          let laws = climbing p far.bounding.planned.sound in
          record {
            figures = report_of (m + 1) set new;
            reported =
                record {
                  least = settled_least p laws turn_settles;
                  settles = turn_settles;
                  bounded = λ k h.
                      subst (λ b. Bounded (setting p (inputs p (bounds_of set)) k) b (get_or new k no_figure).jobs.0)
                      (sym (same k h)) (upto.each k h).bounded;
                };
            sweep = refl;
            few = sweeps_few p laws turn_settles;
            rows = turn_rows;
          }

    -- If it changes nothing, by the sets as they are lent, the sweeps settle.
    pub turn_settled : {a b : List Figure} → a ≡ set → b ≡ new → Same (length a) (bounds_of a) (bounds_of b) → Settled p (m + 1) new
    turn_settled e f same = turn_report (rw (e, f, far.bounding.count) at same)
