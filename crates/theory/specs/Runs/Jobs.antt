-- A job and its cost: the ticks that a job is given come to its own cost.
use Prim.Native.Nat.{ℕ, zero, suc, ◌+◌, ◌-◌, ◌≤◌, ◌<◌, min}
use Rattle.std.specs.Prelude.{◌≡◌, ◌↔◌, Bool, true, false, cond, ◌&&◌, eqb}
use Rattle.std.proofs.Common.{eq-eqb, ne_eqb, add-zero}
use Rattle.std.proofs.Math.Decide.{ℕ_discrete, dec_lt}
use native.Mathlib.Omega.{arith}
use Rattle.paper.specs.Words.{sum, count}
use Rattle.paper.specs.Tables.{Plan}
use Rattle.paper.specs.Running.{Run, costs, state_at, finishes, RunOf}
use Rattle.theory.specs.Plans.Sound.{Sound}
use Rattle.theory.specs.Runs.Served.{served, running, served_suc, costs_suc, costs_rise, paid, finished_exactly}

-- The ticks below t that job m of task k is given: those served to its task while m jobs of it have finished, so that job m is
-- its earliest unfinished one.
unfoldable pub given : Plan → Run → (k m t : ℕ) → ℕ
given p r k m t = count t (λ u. eqb ((state_at p r u).finished k) m && running p r k u)

-- A tick of service more, or none, of a task that was served s ticks, which pay for f jobs and not for one more: it is given to
-- the earliest unfinished job, number f, and to no other.
given_step : (r : Run) (k : ℕ) (now : Bool) (m s f : ℕ) → (costs r k f ≤ s) × (s < costs r k (suc f))
    → min (r.cost k m) (s + cond now 1 0 - costs r k m) ≡ min (r.cost k m) (s - costs r k m) + cond (eqb f m && now) 1 0
given_step r k false m s f paid = by (eqb f m)
  where
    -- no tick, whichever job
    by : (own : Bool) → min (r.cost k m) (s + 0 - costs r k m) ≡ min (r.cost k m) (s - costs r k m) + cond (own && false) 1 0
    by true = rw (add-zero s) (omega arith)
    by false = rw (add-zero s) (omega arith)
given_step r k true m s f paid =
    elim (ℕ_discrete f m) [
      | yes own ↦ rw (eq-eqb f m own) (omega (arith, rw own at paid, costs_suc r k m))
      | no other ↦
          rw (ne_eqb f m other)
          (elim (dec_lt m f) [
            | yes before ↦ omega (arith, costs_suc r k m, costs_rise r k (suc m) f before)
            | no after ↦ omega (arith, costs_rise r k (suc f) m (omega arith))
          ])
    ]

module _ (p : Plan) (r : Run) (run : RunOf p r) (k : ℕ) (counted : k < p.tasks) (sound : Sound p) where
  -- What a job is given is what its task was served beyond the cost of the jobs before it, up to its own cost.
  given_is : (m t : ℕ) → given p r k m t ≡ min (r.cost k m) (served p r k t - costs r k m)
  unfolding given count sum state_at finishes
  given_is m zero = omega arith
  given_is m (suc t) =
      let step = given_step r k (running p r k t) m (served p r k t) (finishes p r k (suc t)) (paid p r run k counted sound t) in
      omega (arith, served_suc p r k t, given_is m t, step)

  -- A job is given no more than its own cost, and it is finished exactly when it has been given that.
  pub job_given : (m t : ℕ)
      → (given p r k m t ≤ r.cost k m) × ((m < finishes p r k (suc t)) ↔ (given p r k m t ≡ r.cost k m))
  job_given m t = (
    omega (arith, given_is m t),
    (
      λ h. omega (arith, given_is m t, costs_suc r k m, (finished_exactly p r run k counted sound m t).0 h),
      λ e. (finished_exactly p r run k counted sound m t).1
          (omega (arith, given_is m t, costs_suc r k m, run.least k m counted, sound.some_cost k counted)),
    ),
  )
