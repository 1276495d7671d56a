-- The running rule serves a task and its rivals whenever work of theirs is pending.
use Prim.Native.Nat.{ℕ, zero, suc, ◌≤◌, ◌<◌}
use Rattle.std.specs.Prelude.{◌≡◌, ◌⊎◌, true, ◌&&◌}
use Rattle.std.proofs.Common.{ap, arith, lt-ltb}
use Rattle.std.proofs.Math.Logic.{inl, inr}
use Rattle.std.proofs.Math.Bool.{not}
use Rattle.std.proofs.Math.Decide.{dec_lt}
use Rattle.paper.specs.Words.{sum, any}
use Rattle.paper.specs.Tables.{Plan}
use Rattle.paper.specs.Windows.{rival}
use Rattle.paper.specs.Running.{Run, costs, waits, runs, state_at, activations, RunOf}
use Rattle.theory.specs.Numbers.Tests.{both, some_passes, passes_or_not}
use Rattle.theory.specs.Runs.Busy.{Level, Serving, Pending, service}
use Rattle.theory.specs.Runs.Rivals.{rival_is, rival_trans, over_rivals, over_rivals_mono, over_rivals_more, over_rivals_less}
use Rattle.theory.specs.Runs.Served.{served, running, served_suc, served_more, served_most, activations_counted, costs_rise}

-- Task k's level in a run: the task and its rivals; no tick is lost.
abbrev pub level : Plan → Run → ℕ → Level
level p r k =
    record {
      own = λ t. costs r k (activations p r k t);
      rivals = λ t. over_rivals p k (λ j. costs r j (activations p r j t));
      served_own = served p r k;
      served_rivals = λ t. over_rivals p k (λ j. served p r j t);
      lost = λ t. 0;
    }

-- Tick t is served to task k, or to a rival of it.
abbrev pub Serves : Plan → Run → ℕ → ℕ → Type 0
Serves p r t k =
    (running p r k t ≡ true) ⊎ ((j : ℕ) × (j < p.tasks) × (rival p k j ≡ true) × (running p r j t ≡ true))

module _ (p : Plan) (r : Run) (t : ℕ) where
  -- A tick served to a rival, or to a rival of it, is served to a rival.
  serves_rival : (k j : ℕ) → j < p.tasks → rival p k j ≡ true → Serves p r t j → Serves p r t k
  serves_rival k j l e (inl now) = inr (j, l, e, now)
  serves_rival k j l e (inr (i, h, g, now)) = inr (i, h, rival_trans p k j i e g, now)

  -- A tick at which a task waits is served to it or to a rival, its priority being below n.
  pub serves_urgent : (n k : ℕ) → (p.task k).priority < n → waits p r (state_at p r t) t k ≡ true → Serves p r t k
  unfolding runs
  serves_urgent zero k h e = absurd (omega arith)
  serves_urgent (suc n) k h e =
      elim (passes_or_not (any p.tasks (λ j. rival p k j && waits p r (state_at p r t) t j))) [
        | inl some ↦
            let (j, l, found) = some_passes p.tasks (λ j. rival p k j && waits p r (state_at p r t) t j) some in
            let (g, f) = both (rival p k j) (waits p r (state_at p r t) t j) found in
            serves_rival k j l g (serves_urgent n j (omega (arith, rival_is p k j g)) f)
        | inr alone ↦ inl (rw e (ap not alone))
      ]

  -- A tick at which a task was served less than its activated jobs cost is served to it or to a rival.
  serves_behind : (k : ℕ) → served p r k t < costs r k (activations p r k (suc t)) → Serves p r t k
  unfolding waits activations
  serves_behind k h = serves_urgent (suc (p.task k).priority) k (omega arith) (lt-ltb _ _ h)

  -- A tick at which work of a level is pending is served to it.
  serves_level : (k : ℕ) → Pending (level p r k) t → Serves p r t k
  serves_level k pending =
      elim (dec_lt (served p r k t) (costs r k (activations p r k (suc t)))) [
        | yes own ↦ serves_behind k own
        | no own ↦ by (over_rivals_less p k _ _ (omega arith))
      ]
    where
      -- a rival is behind
      by : (j : ℕ) × (j < p.tasks) × (rival p k j ≡ true) × (served p r j t < costs r j (activations p r j (suc t)))
          → Serves p r t k
      by (j, l, e, behind) = serves_rival k j l e (serves_behind j behind)

  -- A tick served to a task adds to its service.
  served_now : (k : ℕ) → running p r k t ≡ true → served p r k t < served p r k (suc t)
  served_now k e = omega (arith, rw e at (served_suc p r k t))

  -- A tick served to a level adds to its service.
  level_served : (k : ℕ) → Serves p r t k → service (level p r k) t < service (level p r k) (suc t)
  level_served k (inl now) =
      omega (
        arith,
        served_now k now,
        over_rivals_mono p k (λ j. served p r j t) (λ j. served p r j (suc t)) (λ j l. (served_more p r j t).0),
      )
  level_served k (inr (j, l, e, now)) =
      omega (
        arith,
        served_more p r k t,
        over_rivals_more p k (λ j. served p r j t) (λ j. served p r j (suc t)) (λ j l. (served_more p r j t).0) j l e
            (served_now j now),
      )

-- The running rule serves a level whenever work of it is pending.
pub serving : (p : Plan) (r : Run) → RunOf p r → (k : ℕ) → k < p.tasks → Serving (level p r k)
unfolding activations state_at sum
serving p r run k counted =
    record {
      start = omega arith;
      own_more = work_more k counted;
      rivals_more = λ t. over_rivals_mono p k _ _ (λ j l. work_more j l t);
      served_own_more = λ t. (served_more p r k t).0;
      served_rivals_more = λ t. over_rivals_mono p k _ _ (λ j l. (served_more p r j t).0);
      rivals_most = λ t. over_rivals_mono p k _ _ (λ j l. served_most p r run j l t);
      full = λ t pending. omega (arith, level_served p r t k (serves_level p r t k pending));
    }
  where
    -- the work of a task never falls
    work_more : (j : ℕ) → j < p.tasks → (t : ℕ)
        → costs r j (activations p r j t) ≤ costs r j (activations p r j (suc t))
    work_more j l t = costs_rise r j _ _ ((activations_counted p r run j l).more t)
