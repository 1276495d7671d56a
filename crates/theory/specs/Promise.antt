-- Demands 2 and 3 for a well-formed plan, in the document's words.
use Rattle.std.specs.Prelude.{ℕ, ◌+◌, ◌-◌, ◌≤◌, ◌<◌, ◌⊎◌, ◌↔◌}
use Rattle.std.proofs.Common.{sym, subst}
use Rattle.paper.specs.Words.{sum}
use Rattle.paper.specs.Bytes.{Bytes}
use Rattle.paper.specs.Tables.{Plan, plan_of}
use Rattle.paper.specs.Refusals.{WellFormed}
use Rattle.paper.specs.Sets.{Bounds, inputs, Consistent, Fits, LeastSet}
use Rattle.paper.specs.Sweeps.{Settles, Leaving}
use Rattle.paper.specs.Running.{Run, RunOf}
use Rattle.paper.specs.Kept.{Kept}
use Rattle.theory.specs.Task.Preemptive.{bound_says}
use Rattle.theory.specs.Plans.Sound.{Sound}
use Rattle.theory.specs.Plans.Inputs.{inputs_law, period_law, period_some}
use Rattle.theory.specs.Plans.WellFormed.{well_formed→sound}
use Rattle.theory.specs.Sweeps.Demand2
use Rattle.theory.specs.Sweeps.Climbs.{proper, climbing}
use Rattle.theory.specs.Runs.Covers.{Covers}
use Rattle.theory.specs.Runs.Demand3.{claims_of, demand_3}
use Rattle.theory.specs.Runs.OneAtATime.{Idle, Spends}
use Rattle.theory.specs.Runs.OneAtATime

-- A consistent set covers the windows of every task of a sound plan.
consistent_covers : {p : Plan} {R : Bounds} → Sound p → Consistent p R → Covers p (inputs p R) R
consistent_covers {p} {R} sound consistent k l =
    record {
      input = inputs_law sound R k l;
      period = subst (λ P. 1 ≤ P) (sym (period_law sound R k l)) (period_some sound k l);
      n = (consistent k l).0;
      says = bound_says (proper p sound (inputs p R) k l) (consistent k l).1;
    }

module _ {s : Bytes} (well : WellFormed s) where
  -- Refused for having no bound exactly when no set satisfying the equations lies within the limits.
  pub no_bound : ((m : ℕ) × (k : ℕ) × Leaving (plan_of s) m k) ↔ ((R : Bounds) → Fits (plan_of s) R → ⊥)
  no_bound = Demand2.no_bound (plan_of s) (climbing (plan_of s) (well_formed→sound s well))

  -- One of the two always happens: the sweeps settle, or some task leaves the limits.
  pub decided : ((m : ℕ) × (R : Bounds) × Settles (plan_of s) m R) ⊎ ((m : ℕ) × (k : ℕ) × Leaving (plan_of s) m k)
  decided = Demand2.decided (plan_of s) (climbing (plan_of s) (well_formed→sound s well))

  -- The set in which the sweeps settle is the least consistent set within limits.
  pub settled_least : {m : ℕ} {R : Bounds} → Settles (plan_of s) m R → LeastSet (plan_of s) R
  settled_least = Demand2.settled_least (plan_of s) (climbing (plan_of s) (well_formed→sound s well))

  -- The set in which the sweeps settle is no larger, task by task, than any consistent set, within limits or not.
  pub least_of_all : {m : ℕ} {R : Bounds} → Settles (plan_of s) m R
      → (R' : Bounds) → Consistent (plan_of s) R' → (k : ℕ) → k < (plan_of s).tasks → R k ≤ R' k
  least_of_all = Demand2.least_of_all (plan_of s) (climbing (plan_of s) (well_formed→sound s well))

  -- The number of the first sweep that changes nothing is never above 1 plus the sum over tasks of R+ - C+.
  pub sweeps_few : {m : ℕ} {R : Bounds} → Settles (plan_of s) m R
      → m ≤ 1 + sum (plan_of s).tasks (λ k. R k - ((plan_of s).task k).C+)
  sweeps_few = Demand2.sweeps_few (plan_of s) (climbing (plan_of s) (well_formed→sound s well))

  -- Every consistent set, within limits or not and in particular the reported one, is kept in every run of the plan, of any
  -- length.
  pub kept : {R : Bounds} → Consistent (plan_of s) R → (r : Run) → RunOf (plan_of s) r
      → Kept (plan_of s) (claims_of (plan_of s) (inputs (plan_of s) R) R) r
  kept {R} consistent r run =
      let sound = well_formed→sound s well in
      demand_3 (plan_of s) (inputs (plan_of s) R) R sound (consistent_covers sound consistent) r run

  -- One at a time: at every tick of every run, each controller spends it on exactly one of its tasks, the right one, where any
  -- of them waits, and on none where none does.
  pub one_at_a_time : (r : Run) (c t : ℕ) → Idle (plan_of s) r c t ⊎ Spends (plan_of s) r c t
  one_at_a_time = OneAtATime.one_at_a_time (well_formed→sound s well)
