-- Demand 2 for a plan, given the laws of its equations: the sweeps settle in the least consistent set, which is within limits,
-- and leave the limits exactly when no consistent set is within them.
pub mod Bridge
use Rattle.std.specs.Prelude.{ℕ, zero, suc, ◌+◌, ◌-◌, ◌*◌, ◌≤◌, ◌≡◌, ◌⊎◌, ◌↔◌}
use Rattle.std.proofs.Math.Logic.{⊎_map}
use Rattle.std.proofs.Math.Logic.Iff as Iff
use Rattle.paper.specs.Words.{IsLeast, sum}
use Rattle.paper.specs.Limits.{most_ticks}
use Rattle.paper.specs.Tables.{Plan}
use Rattle.paper.specs.Sets.{Bounds, inputs, Consistent, Fits, LeastSet}
use Rattle.paper.specs.Sweeps.{Sweep, Settles, Leaves, Leaving}
use Rattle.theory.specs.Numbers.Least.{least_same}
use Rattle.theory.specs.Sweeps.Climb
use Rattle.theory.specs.Sweeps.Climb.{Below, Same, Climbing}
use Bridge.{equations, some, some_two, settles, leaves, leaving, fits, least_set}

-- After m sweeps of a plan, each of which changed something, the set is R.
abbrev pub Reached : Plan → ℕ → Bounds → Type 0
Reached p m R = Climb.Reached.Reached (equations p) m R

-- Before the first sweep the set holds every task's C+.
pub reached_start : (p : Plan) (R : Bounds) → Same p.tasks R (λ k. (p.task k).C+) → Reached p zero R
reached_start p R same = Climb.Reached.reached_start (equations p) R same

-- If a further sweep changes nothing, the sweeps settle.
pub reached_settles : (p : Plan) {m : ℕ} {R : Bounds} (R' : Bounds) → Reached p m R → Sweep p R R' → Same p.tasks R R'
    → Settles p (suc m) R
reached_settles p {m} {R} R' r w same = (settles p (suc m) R).1 (Climb.Reached.reached_settles R' r w same)

-- The first sweep in which a task leaves the limits, and the lowest such task, are one number each.
pub leaving_one : {p : Plan} {m m' k k' : ℕ} → Leaving p m k → Leaving p m' k' → (m ≡ m') × (k ≡ k')
leaving_one {p} {m} {m'} {k} {k'} o o' = Climb.Outcome.leaving_one ((leaving p m k).0 o) ((leaving p m' k').0 o')

module _ (p : Plan) (laws : Climbing (equations p) most_ticks) where
  -- If a further sweep changes something, one sweep more is done.
  pub reached_next : {m : ℕ} {R : Bounds} (R' : Bounds) → Reached p m R → Sweep p R R' → (Same p.tasks R R' → ⊥)
      → Reached p (suc m) R'
  reached_next R' r w differ = Climb.Reached.reached_next laws R' r w differ

  -- If in a further sweep tasks leave the limits, the sweeps end with the lowest such task.
  pub reached_leaves : {m : ℕ} {R : Bounds} {k : ℕ} → Reached p m R → IsLeast (Leaves p (inputs p R)) k → Leaving p (suc m) k
  reached_leaves {m} {R} {k} r o = (leaving p (suc m) k).1 (Climb.Reached.reached_leaves laws r ((least_same (leaves p R)).0 o))

  -- No more sweeps are done than the bounds can grow by.
  pub reached_most : {m : ℕ} {R : Bounds} → Reached p m R → m ≤ p.tasks * most_ticks
  reached_most r = Climb.Reached.reached_most laws r

  -- "The report gives the least consistent set within limits": it is the set in which the sweeps settle.
  pub settled_least : {m : ℕ} {R : Bounds} → Settles p m R → LeastSet p R
  settled_least {m} {R} t = (least_set p R).1 (Climb.Outcome.settled_least laws ((settles p m R).0 t))

  -- It is below every consistent set, within limits or not.
  pub least_of_all : {m : ℕ} {R : Bounds} → Settles p m R → (R' : Bounds) → Consistent p R' → Below p.tasks R R'
  least_of_all {m} {R} t = Climb.Outcome.least_of_all laws ((settles p m R).0 t)

  -- The sweeps settle, or leave the limits,
  pub decided : ((m : ℕ) × (R : Bounds) × Settles p m R) ⊎ ((m : ℕ) × (k : ℕ) × Leaving p m k)
  decided = ⊎_map (some_two (settles p)).1 (some_two (leaving p)).1 (Climb.Outcome.decided laws)

  -- and never both.
  pub never_both : {m m' k : ℕ} {R : Bounds} → Settles p m R → Leaving p m' k → ⊥
  never_both {m} {m'} {k} {R} t o = Climb.Outcome.never_both laws ((settles p m R).0 t) ((leaving p m' k).0 o)

  -- A plan has bounds exactly when some consistent set lies within the limits.
  pub some_bound : ((m : ℕ) × (R : Bounds) × Settles p m R) ↔ ((R : Bounds) × Fits p R)
  some_bound = Iff.trans (some_two (settles p)) (Iff.trans (Climb.Outcome.some_bound laws) (Iff.symm (some (fits p))))

  -- A plan is refused for having no bound exactly when no consistent set lies within the limits.
  pub no_bound : ((m : ℕ) × (k : ℕ) × Leaving p m k) ↔ ((R : Bounds) → Fits p R → ⊥)
  no_bound =
      let same = Iff.trans (some_two (leaving p)) (Climb.Outcome.no_bound laws) in
      (λ o R f. same.0 o R ((fits p R).0 f), λ none. same.1 (λ R f. none R ((fits p R).1 f)))

  -- The sweep number and the set in which the sweeps settle are one number and one set.
  pub settles_one : {m m' : ℕ} {R R' : Bounds} → Settles p m R → Settles p m' R' → (m ≡ m') × Same p.tasks R R'
  settles_one {m} {m'} {R} {R'} t t' = Climb.Outcome.settles_one laws ((settles p m R).0 t) ((settles p m' R').0 t')

  -- The sweep number "is never above 1 plus the sum over tasks of R+ - C+".
  pub sweeps_few : {m : ℕ} {R : Bounds} → Settles p m R → m ≤ 1 + sum p.tasks (λ k. R k - (p.task k).C+)
  sweeps_few {m} {R} t = Climb.Outcome.sweeps_few laws ((settles p m R).0 t)
