-- What the running rule gives one task: what activates it, the ticks served to it, and what a job's finish says.
use Prim.Native.Nat.{ℕ, zero, suc, ◌+◌, ◌-◌, ◌*◌, ◌≤◌, ◌<◌}
use Rattle.std.specs.Prelude.{◌≡◌, ◌≢◌, ◌↔◌, Bool, true, false, cond, ◌&&◌, eqb}
use Rattle.std.proofs.Math.Path.{refl, fun_ext}
use Rattle.std.proofs.Common.{sym, ap, add-zero, add-suc, add-one, ltb-true, eqb-true}
use Rattle.std.proofs.Math.Decide.{dec_le}
use native.Mathlib.Omega.{arith}
use Rattle.std.proofs.lemmas.Bool.{eqb-false}
use Rattle.paper.specs.Words.{sum}
use Rattle.paper.specs.Tables.{Source, outside, fed, Plan}
use Rattle.paper.specs.Streams.{Stream}
use Rattle.paper.specs.Running.{Run, costs, activated_by, waits, runs, ends, step, state_at, activations, finishes, At, Counts, RunOf}
use Rattle.theory.specs.Plans.Sound.{Sound}
use Rattle.theory.specs.Numbers.Tests.{both}
use Rattle.theory.specs.Numbers.Sums.{rises, sum_reaches}
use Rattle.theory.specs.Streams.Counts.{falls}

-- The ticks served to task k before tick t.
abbrev pub served : Plan → Run → ℕ → ℕ → ℕ
served p r k t = (state_at p r t).served k

-- Whether tick t is served to task k.
abbrev pub running : Plan → Run → ℕ → ℕ → Bool
running p r k t = runs p r (state_at p r t) t k

-- Whether tick t, if it is served to task k, is the last of a job.
abbrev ending : Plan → Run → ℕ → ℕ → Bool
ending p r k t = ends r (state_at p r t) k

-- A tick served to a task is counted.
pub served_suc : (p : Plan) (r : Run) (k t : ℕ) → served p r k (suc t) ≡ served p r k t + cond (running p r k t) 1 0
unfolding state_at step
served_suc p r k t = refl

-- A job whose last tick is served is finished at the next tick.
finishes_suc : (p : Plan) (r : Run) (k t : ℕ)
    → finishes p r k (suc (suc t)) ≡ finishes p r k (suc t) + cond (running p r k t && ending p r k t) 1 0
unfolding state_at step finishes
finishes_suc p r k t = refl

-- Finishes are counts.
pub finishes_counted : (p : Plan) (r : Run) (k : ℕ) → Counts (finishes p r k)
unfolding finishes state_at
finishes_counted p r k = record { none = refl; more = more }
  where
    -- they never fall
    more : (t : ℕ) → finishes p r k t ≤ finishes p r k (suc t)
    more zero = omega arith
    more (suc t) = omega (arith, finishes_suc p r k t)

-- A task fed from outside is activated by its events.
pub activations_outside : (p : Plan) (r : Run) (k : ℕ) (M : Stream) → (p.task k).source ≡ outside M → Counts (r.events k)
    → activations p r k ≡ r.events k
unfolding activations activated_by
activations_outside p r k M e counted = fun_ext same
  where
    -- before each tick
    same : (t : ℕ) → activations p r k t ≡ r.events k t
    same zero = sym counted.none
    same (suc t) = ap (activated_by r (state_at p r t) t k) e

-- A fed task is activated by its feeder's finishes.
pub activations_fed : (p : Plan) (r : Run) (k j : ℕ) → (p.task k).source ≡ fed j → activations p r k ≡ finishes p r j
unfolding activations activated_by finishes
activations_fed p r k j e = fun_ext same
  where
    -- before each tick
    same : (t : ℕ) → activations p r k t ≡ finishes p r j t
    same zero = refl
    same (suc t) = ap (activated_by r (state_at p r t) t k) e

-- A task is served only where it was served less than its activated jobs cost.
running_behind : (p : Plan) (r : Run) (k t : ℕ) → running p r k t ≡ true
    → served p r k t < costs r k (activations p r k (suc t))
unfolding runs waits activations
running_behind p r k t e = ltb-true _ _ (both _ _ e).0

-- A tick served only where there is room for one takes no more than the room.
tick_fits : (b : Bool) (room : ℕ) → (b ≡ true → 1 ≤ room) → cond b 1 0 ≤ room
tick_fits true room h = h refl
tick_fits false room h = omega arith

-- The service of a task never falls, and rises by at most one at a tick.
pub served_more : (p : Plan) (r : Run) (k t : ℕ)
    → (served p r k t ≤ served p r k (suc t)) × (served p r k (suc t) ≤ suc (served p r k t))
served_more p r k t = omega (arith, served_suc p r k t, tick_fits (running p r k t) 1 (λ e. omega arith))

-- In n ticks a task is served at most n.
served_within : (p : Plan) (r : Run) (k t n : ℕ) → served p r k (t + n) ≤ served p r k t + n
served_within p r k t zero = rw (add-zero t) (omega arith)
served_within p r k t (suc n) = rw (add-suc t n) (omega (arith, served_within p r k t n, served_more p r k (t + n)))

-- The cost of m + 1 jobs is that of m jobs and job m's.
pub costs_suc : (r : Run) (k m : ℕ) → costs r k (suc m) ≡ costs r k m + r.cost k m
unfolding sum
costs_suc r k m = refl

-- More jobs of a task cost no less.
pub costs_rise : (r : Run) (k m n : ℕ) → m ≤ n → costs r k m ≤ costs r k n
costs_rise r k = rises (costs r k) (λ m. omega (arith, costs_suc r k m))

module _ (p : Plan) (r : Run) (run : RunOf p r) (k : ℕ) (counted : k < p.tasks) where
  -- Activations are counts.
  pub activations_counted : Counts (activations p r k)
  activations_counted = by (p.task k).source refl
    where
      -- whatever the source
      by : (source : Source) → (p.task k).source ≡ source → Counts (activations p r k)
      by (outside M) e =
          let events = run.counted k M counted e in
          rw (activations_outside p r k M e events) events
      by (fed j) e = rw (activations_fed p r k j e) (finishes_counted p r j)

  -- n jobs more cost at most n times C+ more.
  pub costs_most : (m n : ℕ) → costs r k (m + n) ≤ costs r k m + n * (p.task k).C+
  costs_most = sum_reaches (r.cost k) (p.task k).C+ (λ m. run.most k m counted)

  -- A task is served no more than its activated jobs cost.
  pub served_most : (t : ℕ) → served p r k t ≤ costs r k (activations p r k t)
  unfolding state_at
  served_most zero = omega arith
  served_most (suc t) =
      let activated = costs r k (activations p r k (suc t)) in
      omega (
        arith,
        served_suc p r k t,
        served_most t,
        costs_rise r k (activations p r k t) (activations p r k (suc t)) (activations_counted.more t),
        tick_fits (running p r k t) (activated - served p r k t) (λ e. omega (arith, running_behind p r k t e)),
      )

  module _ (sound : Sound p) where
    -- A job more costs more.
    costs_more : (m : ℕ) → costs r k m < costs r k (suc m)
    costs_more m = omega (arith, costs_suc r k m, sound.some_cost k counted, run.least k m counted)

    -- Jobs that cost less are fewer.
    costs_fewer : (m n : ℕ) → costs r k m < costs r k n → m < n
    costs_fewer m n h =
        elim (dec_le n m) [
          | yes l ↦ omega (arith, costs_rise r k n m l)
          | no l ↦ omega arith
        ]

    -- If f finished jobs are what s ticks of service pay for, it stays so after a tick.
    still_paid : (now last : Bool) (s f : ℕ) → last ≡ eqb (s + 1) (costs r k (f + 1))
        → (costs r k f ≤ s) × (s < costs r k (suc f))
        → (costs r k (f + cond (now && last) 1 0) ≤ s + cond now 1 0)
        × (s + cond now 1 0 < costs r k (suc (f + cond (now && last) 1 0)))
    still_paid true true s f e paid =
        omega (arith, eqb-true (s + 1) (costs r k (f + 1)) (sym e), costs_more (f + 1))
    still_paid true false s f e paid =
        let short : s + 1 ≢ costs r k (suc f) = rw (add-one f) at (eqb-false (s + 1) (costs r k (f + 1)) (sym e)) in
        rw (add-zero f) (omega arith)
    still_paid false last s f e paid = rw (add-zero f, add-zero s) paid

    -- The finished jobs are those that the service pays for: they cost no more, and with one job more they would.
    pub paid : (t : ℕ)
        → (costs r k (finishes p r k (suc t)) ≤ served p r k t) × (served p r k t < costs r k (suc (finishes p r k (suc t))))
    unfolding state_at step finishes ends sum
    paid zero = omega (arith, costs_more 0)
    paid (suc t) = still_paid (running p r k t) (ending p r k t) (served p r k t) (finishes p r k (suc t)) refl (paid t)

    -- A job is finished by a tick exactly when its task was served, before that tick, what the jobs up to it cost.
    pub finished_exactly : (m t : ℕ) → (m < finishes p r k (suc t)) ↔ (costs r k (suc m) ≤ served p r k t)
    finished_exactly m t = (
      λ h. omega (arith, paid t, costs_rise r k (suc m) (finishes p r k (suc t)) h),
      λ h. omega (arith, costs_fewer (suc m) (suc (finishes p r k (suc t))) (omega (arith, paid t))),
    )

    -- A job finished at tick f or sooner was activated, and since then at least C- ticks have passed.
    pub began : (m f : ℕ) → m < finishes p r k (suc f) → (a : ℕ) × At (activations p r k) m a × (a + (p.task k).C- ≤ f)
    began m f h =
        let cost = costs_rise r k (suc m) (finishes p r k (suc f)) h in
        let activated = costs_fewer m (activations p r k f) (omega (arith, paid f, served_most f, costs_more m)) in
        let (a, sooner, now) = falls activations_counted m f activated in
        let e : a + (f - a) ≡ f = omega arith in
        let within : served p r k f ≤ served p r k a + (f - a) = rw e at (served_within p r k a (f - a)) in
        let before = costs_rise r k (activations p r k a) m now.after in
        (a, now, omega (arith, paid f, served_most a, costs_suc r k m, run.least k m counted))
