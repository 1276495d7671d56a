-- No two outcomes: two results that meet one contract are one result.
use Rattle.std.specs.Prelude.{ℕ, zero, suc, ◌<◌, ◌≡◌, refl, List, ◌∷◌, Result, Ok, Err}
use Rattle.std.proofs.Common.{arith, sym, ◌∙◌, ap, ap₂}
use Rattle.paper.specs.Tables.{Plan}
use Rattle.theory.specs.Plans.Sound.{Sound}
use Rattle.theory.specs.Sweeps.Climbs.{climbing}
use Rattle.theory.specs.Sweeps.Demand2.{leaving_one, never_both}
use Rattle.theory.specs.Outcomes.Same.{inputs_same}
use Rattle.theory.specs.Outcomes.Unique.{reported_same}
use Rattle.plan.specs.Tables.{tabulate}
use Rattle.plan.specs.declared.tasks.Task.{Task}
use Rattle.stream.specs.declared.kinds.Ticks.{Ticks}
use Rattle.sweep.specs.declared.once.Left.{Left}
use Rattle.sweep.specs.declared.once.Figure.{Figure}
use Rattle.sweep.specs.Rows.{per_task, period_of, figure}
use Rattle.sweep.specs.Planned.{Planned}
use Rattle.sweep.specs.Ends.{figure_of, Ends}

-- Lists of what is the same at each task are the same.
tabulate_same : {A : Type 0} (n : ℕ) (f g : ℕ → A) → ((k : ℕ) → k < n → f k ≡ g k) → tabulate n f ≡ tabulate n g
unfolding tabulate
tabulate_same zero f g same = refl
tabulate_same (suc n) f g same =
    ap₂ ◌∷◌ (same 0 (omega arith)) (tabulate_same n (λ k. f (suc k)) (λ k. g (suc k)) (λ k h. same (suc k) (omega arith)))

module _ {p : Plan} (sound : Sound p) where
  -- Two ends that are a plan's are one end, and the rows beside them are the same.
  pub ends_one : {r r' : Result ℕ Left} {rows rows' : List Figure} → Ends p r rows → Ends p r' rows' → (r ≡ r') × (rows ≡ rows')
  ends_one {r = Ok m} {r' = Ok m'} s s' =
      let same = reported_same sound s.reported s'.reported in
      let streams = inputs_same p s.figures.R s'.figures.R sound.feeders same.R in (
        ap Ok (s.sweep ∙ same.sweeps ∙ sym s'.sweep),
        s.rows
            ∙ tabulate_same p.tasks (figure_of p s.figures) (figure_of p s'.figures)
            (λ k h i. figure (same.R k h i) (streams k h i) (same.jobs k h i))
            ∙ sym s'.rows,
      )
  ends_one {r = Err left} {r' = Err left'} o o' =
      let one = leaving_one o.leaving o'.leaving in (
        ap₂ (λ (k m : ℕ). Err (record { task = record { 0 = k }; sweep = m })) one.1 one.0,
        o.rows ∙ sym o'.rows,
      )
  ends_one {r = Ok m} {r' = Err left} s o = absurd (never_both p (climbing p sound) s.reported.settles o.leaving)
  ends_one {r = Err left} {r' = Ok m} o s = absurd (never_both p (climbing p sound) s.reported.settles o.leaving)

-- Two results that meet the contract of `settle`, whose caller has met it, are one,
pub settle_one : {tasks : List Task} {r r' : Result ℕ Left} {rows rows' : List Figure} → (p : Plan) × Planned p tasks
    → ((p : Plan) → Planned p tasks → Ends p r rows) → ((p : Plan) → Planned p tasks → Ends p r' rows')
    → (r ≡ r') × (rows ≡ rows')
settle_one (p, so) meets meets' = ends_one so.sound (meets p so) (meets' p so)

-- and so are two that meet the contract of `periods`.
pub periods_one : {tasks : List Task} {r r' : List Ticks} → (p : Plan) × Planned p tasks
    → ((p : Plan) → Planned p tasks → r ≡ per_task p (period_of p))
    → ((p : Plan) → Planned p tasks → r' ≡ per_task p (period_of p)) → r ≡ r'
periods_one (p, so) meets meets' = meets p so ∙ sym (meets' p so)
