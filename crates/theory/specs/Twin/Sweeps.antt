-- The sweeps by computing: from a set to the next, until a sweep changes nothing or a task leaves the limits.
use Prim.Native.Nat.{ℕ, zero, suc, ◌+◌, ◌*◌, ◌<◌}
use Rattle.std.specs.Prelude.{◌≡◌, refl, Bool, true, false, cond, not, List, eqb, get_or}
use Rattle.std.proofs.Common.{true≢false, ne_eqb, arith}
use Rattle.std.proofs.lemmas.Bool.{eqb-false, not-true}
use Rattle.std.proofs.Math.Decide.{ℕ_discrete}
use Rattle.paper.specs.Words.{any}
use Rattle.paper.specs.Limits.{most_ticks}
use Rattle.paper.specs.Tables.{Plan}
use Rattle.paper.specs.Windows.{Bounded, setting}
use Rattle.paper.specs.Sets.{Bounds, inputs}
use Rattle.paper.specs.Sweeps.{Sweep, Leaving}
use Rattle.paper.specs.Report.{Figures}
use Rattle.paper.specs.Answer.{Reported}
use Rattle.theory.specs.Numbers.Least.{least_same}
use Rattle.theory.specs.Numbers.Tests.{some_passes, passes_any}
use Rattle.theory.specs.Plans.Sound.{Sound}
use Rattle.theory.specs.Sweeps.Climb.{Same}
use Rattle.theory.specs.Sweeps.Climbs.{proper, climbing}
use Rattle.theory.specs.Sweeps.Demand2.{Reached, reached_start, reached_next, reached_settles, reached_leaves, reached_most}
use Rattle.theory.specs.Sweeps.Demand2.{settled_least}
use Rattle.theory.specs.Twin.Finding.{choice, Row, whole, lacks, row, Rowed, row_says}
use Rattle.theory.specs.Twin.Bound.{Found, bound, bound_says}

-- What stands past the last task.
abbrev nothing : Found
nothing = record { R = 0; jobs = 0 }

-- The set of bounds found, one a task.
abbrev pub bounds : List Found → Bounds
bounds found k = (get_or found k nothing).R

-- The numbers of jobs looked at, one a task.
abbrev pub jobs : List Found → ℕ → ℕ
jobs found k = (get_or found k nothing).jobs

-- One sweep from the set R: what is found for each task, or the lowest task that leaves the limits.
unfoldable pub sweep : Plan → Bounds → Row Found
sweep p R = row p.tasks (λ k. bound (setting p (inputs p R) k))

-- How the sweeps end: they settle with the figures of a report, or a task leaves the limits in a sweep.
pub data Ended : Type 0 where
  settles : (figures : Figures) → Ended
  leaves : (sweep task : ℕ) → Ended

-- Whether two sets differ at one of n tasks.
unfoldable pub differ : ℕ → Bounds → Bounds → Bool
differ n R R' = any n (λ k. not (eqb (R k) (R' k)))

-- How the sweeps end, from what sweep number m + 1 finds: it changed nothing in the set R, they go `on` from the new set, or
-- a task leaves the limits.
unfoldable pub after : Plan → (m : ℕ) (R : Bounds) (on : Bounds → Ended) → Row Found → Ended
after p m R on (lacks k) = leaves (suc m) k
after p m R on (whole found) =
    let later : Ended = on (bounds found) in
    cond (differ p.tasks R (bounds found)) later (settles (record { sweeps = suc m; R = R; jobs = jobs found }))

-- How the sweeps end, from the set R after m sweeps, with at most `fuel` more. (What is said where fuel is out means nothing:
-- `ended` has enough.)
unfoldable pub sweeps : Plan → (fuel m : ℕ) → Bounds → Ended
sweeps p zero m R = leaves m 0
sweeps p (suc fuel) m R = after p m R (λ new. sweeps p fuel (suc m) new) (sweep p R)

-- How a plan's sweeps end: "Start with R+ = C+ for all."
unfoldable pub ended : Plan → Ended
ended p = sweeps p (suc (p.tasks * most_ticks)) 0 (λ k. (p.task k).C+)

-- What an end of the sweeps says: the figures may be reported, or that task is the lowest to leave the limits, in the first
-- sweep in which one does.
abbrev pub EndsSo : Plan → Ended → Type 0
EndsSo p (settles figures) = Reported p figures
EndsSo p (leaves sweep task) = Leaving p sweep task

-- Sets that differ are not the same,
differ_true : (n : ℕ) (R R' : Bounds) → differ n R R' ≡ true → Same n R R' → ⊥
unfolding differ
differ_true n R R' e same =
    let (k, h, other) = some_passes n _ e in
    eqb-false (R k) (R' k) (not-true _ other) (same k h)

-- and sets that do not differ are.
differ_false : (n : ℕ) (R R' : Bounds) → differ n R R' ≡ false → Same n R R'
unfolding differ
differ_false n R R' e k h =
    elim (ℕ_discrete (R k) (R' k)) [
      | yes same ↦ same
      | no other ↦
          let changed : not (eqb (R k) (R' k)) ≡ true = rw (ne_eqb (R k) (R' k) other) in
          absurd (true≢false (rw (passes_any n (λ k. not (eqb (R k) (R' k))) k h changed) at e))
    ]

module _ {p : Plan} (sound : Sound p) where
  -- What a sweep finds for a task is its bound and the jobs looked at; a task for which it finds nothing leaves the limits.
  sweep_says : (R : Bounds)
      → Rowed (λ k f. Bounded (setting p (inputs p R) k) f.R f.jobs) nothing p.tasks (sweep p R)
  unfolding sweep
  sweep_says R = row_says _ nothing p.tasks _ (λ k h. bound_says (proper p sound (inputs p R) k h))

  -- From what one more sweep finds, the sweeps end as they should, if they do when they go on.
  after_says : (m : ℕ) (R : Bounds) (on : Bounds → Ended) (found : Row Found) → Reached p m R
      → Rowed (λ k f. Bounded (setting p (inputs p R) k) f.R f.jobs) nothing p.tasks found
      → ((new : Bounds) → Reached p (suc m) new → EndsSo p (on new)) → EndsSo p (after p m R on found)
  unfolding after
  after_says m R on (lacks k) r out later =
      reached_leaves p (climbing p sound) r
      ((least_same (λ j. (
        λ o. record { counted = o.0; outside = λ R n b. o.1 (record { R = R; jobs = n }) b },
        λ o. (o.counted, λ f b. o.outside f.R f.jobs b),
      ))).0 out)
  after_says m R on (whole found) r each later =
      let laws = climbing p sound in
      let new = bounds found in
      let w : Sweep p R new = λ k h. (jobs found k, each.1 k h) in
      choice (EndsSo p) (differ p.tasks R new)
      (λ e. later new (reached_next p laws new r w (differ_true _ _ _ e)))
      (λ e.
      let same = differ_false _ _ _ e in
      let settled = reached_settles p new r w same in
      record { least = settled_least p laws settled; settles = settled; bounded = λ k h. rw (same k h) (each.1 k h) })

  -- With fuel for as many sweeps as the bounds can grow by, the sweeps end as they should.
  sweeps_say : (fuel m : ℕ) (R : Bounds) → p.tasks * most_ticks < fuel + m → Reached p m R → EndsSo p (sweeps p fuel m R)
  unfolding sweeps
  sweeps_say zero m R far r = absurd (omega (arith, reached_most p (climbing p sound) r))
  sweeps_say (suc fuel) m R far r =
      after_says m R _ (sweep p R) r (sweep_says R) (λ new next. sweeps_say fuel (suc m) new (omega arith) next)

  -- The sweeps of a sound plan end as computed.
  pub ended_says : EndsSo p (ended p)
  unfolding ended
  ended_says = sweeps_say _ 0 _ (omega arith) (reached_start p _ (λ k h. refl))
