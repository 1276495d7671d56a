-- A run whose input streams have kept their models so far: its jobs finish in time.
use Rattle.std.specs.Prelude.{ℕ, suc, ◌+◌, ◌-◌, ◌*◌, ◌≤◌, ◌<◌, ◌≡◌}
use Rattle.std.proofs.Common.{add-one}
use Rattle.std.proofs.Math.Decide.{dec_le}
use native.Mathlib.Omega.{arith}
use Rattle.paper.specs.Tables.{Plan}
use Rattle.paper.specs.Streams.{most_events}
use Rattle.paper.specs.Windows.{Inputs, interference}
use Rattle.paper.specs.Sets.{Bounds}
use Rattle.paper.specs.Running.{Run, costs, activations, finishes, At, Counts, RunOf, Keeps}
use Rattle.theory.specs.Plans.Sound.{Sound}
use Rattle.theory.specs.Numbers.Sums.{rises}
use Rattle.theory.specs.Streams.Counts.{counts_rise, falls, since, few_events}
use Rattle.theory.specs.Streams.Follows.{Follows}
use Rattle.theory.specs.Runs.Busy.{Holds, LastQuiet, last_quiet, finishes_by, look_ends}
use Rattle.theory.specs.Runs.Rivals.{over_rivals_two}
use Rattle.theory.specs.Runs.Served.{served, served_more, costs_rise, costs_most, activations_counted, finished_exactly, began}
use Rattle.theory.specs.Runs.Service.{level, serving}
use Rattle.theory.specs.Runs.Covers.{Covered, Covers, bound_least}

-- All input streams of a run keep their models as far as events at ticks below T go.
abbrev pub InputsKeep : Plan → Inputs → Run → ℕ → Type 0
InputsKeep p S r T = (k : ℕ) → k < p.tasks → Keeps T (S k) (activations p r k)

module _
    (p : Plan) (S : Inputs) (R : Bounds) (sound : Sound p) (covers : Covers p S R) (r : Run) (run : RunOf p r)
    (T : ℕ) (keep : InputsKeep p S r T) where
  -- The rivals' work activated in a span is at most the interference in it.
  rivals_few : (k s B : ℕ) → s + B ≤ T → (level p r k).rivals (s + B) ≤ (level p r k).rivals s + interference p S k B
  unfolding interference
  rivals_few k s B inside = over_rivals_two p k _ _ _ few
    where
      -- so is each rival's
      few : (j : ℕ) → j < p.tasks
          → costs r j (activations p r j (s + B)) ≤ costs r j (activations p r j s) + most_events (S j) B * (p.task j).C+
      few j l =
          let counts = activations_counted p r run j l in
          let events = few_events counts (S j) T s B (covers j l).period (keep j l) inside in
          omega (
            arith,
            costs_rise r j _ _ events,
            costs_most p r run j l (activations p r j s) (most_events (S j) B),
          )

  module _ (k : ℕ) (counted : k < p.tasks) (c : Covered p S R k) where
    -- The task's activations are counts.
    counts : Counts (activations p r k)
    counts = activations_counted p r run k counted

    -- Wherever it begins, the window B(q) holds q jobs of the task.
    window_holds : (s q : ℕ) → 1 ≤ q → q ≤ c.n → s + c.says.B q ≤ T → Holds (level p r k) s (c.says.B q) (q * (p.task k).C+)
    window_holds s q some looked inside = omega (arith, c.says.holds q some looked, rivals_few k s (c.says.B q) inside)

    -- Counted from the last quiet tick up to its activation, a job is among the jobs looked at.
    look_suffices : (m a s : ℕ) → At (activations p r k) m a → a < T → LastQuiet (level p r k) a s
        → m < activations p r k s + c.n
    look_suffices m a s now inside last =
        elim (dec_le (activations p r k s + c.n) m) [
          | yes l ↦ absurd (over (falls counts (activations p r k s + c.n) (suc a) (omega arith)))
          | no l ↦ omega arith
        ]
      where
        -- the first job not looked at would be activated after the last window, which would end in a later quiet tick
        over : (b : ℕ) × (b < suc a) × At (activations p r k) (activations p r k s + c.n) b → ⊥
        over (b, before, next) =
            let apart = since counts (S k) T s c.n b (keep k counted) next (omega arith) in
            let ended : s + c.says.B c.n ≤ b = omega (arith, rw add-one at c.says.ends) in
            let fewer = counts_rise counts (s + c.says.B c.n) b ended in
            look_ends (serving p r run k counted) a s (c.n * (p.task k).C+) (c.says.B c.n) last
            (c.says.above c.n c.says.some (omega arith))
            (omega arith)
            (omega (
              arith,
              costs_rise r k (activations p r k (s + c.says.B c.n)) (activations p r k s + c.n) (omega arith),
              costs_most p r run k counted (activations p r k s) c.n,
            ))
            (window_holds s c.n c.says.some (omega arith) (omega arith))

    -- The first q jobs from the last quiet tick on are paid for before the window B(q) ends.
    jobs_paid : (a s q : ℕ) → LastQuiet (level p r k) a s → 1 ≤ q → q ≤ c.n → s + c.says.B q ≤ T
        → activations p r k s + q ≤ activations p r k (suc a) → costs r k (activations p r k s + q) ≤ served p r k (s + c.says.B q)
    jobs_paid a s q last some looked inside activated =
        finishes_by (serving p r run k counted) a s _ (q * (p.task k).C+) (c.says.B q) last
        (costs_rise r k _ _ activated)
        (costs_most p r run k counted (activations p r k s) q)
        (window_holds s q some looked inside)

    -- A job that is number i from the last quiet tick up to its activation is finished in time.
    job_in_time : (m a s i : ℕ) → At (activations p r k) m a → a + R k ≤ T → LastQuiet (level p r k) a s
        → activations p r k s + i ≡ m → m < finishes p r k (suc (a + R k))
    job_in_time m a s i now inside last e =
        let some = bound_least p S R sound k counted c in
        let early : a < T = omega (arith, sound.some_cost k counted) in
        let looked : suc i ≤ c.n = omega (arith, look_suffices m a s now early last) in
        let apart = since counts (S k) T s i a (keep k counted) (rw e now) early in
        let ended : s + c.says.B (suc i) ≤ a + R k = omega (arith, c.says.within (suc i) (omega arith) looked) in
        let through : activations p r k s + suc i ≡ suc m = omega arith in
        let paid = jobs_paid a s (suc i) last (omega arith) looked (omega arith) (omega arith) in
        (finished_exactly p r run k counted sound m (a + R k)).1
        (omega (
          arith,
          rw through at paid,
          rises (served p r k) (λ t. (served_more p r k t).0) (s + c.says.B (suc i)) (a + R k) ended,
        ))

  -- A task's finishes follow its activations, within C- and R+ ticks.
  pub task_follows : (k : ℕ) → k < p.tasks → Follows T (p.task k).C- (R k) (activations p r k) (finishes p r k)
  task_follows k l = record { began = began p r run k l sound; in_time = in_time }
    where
      -- a job is finished in time
      in_time : (m a : ℕ) → At (activations p r k) m a → a + R k ≤ T → m < finishes p r k (suc (a + R k))
      in_time m a now inside =
          let (s, last) = last_quiet (serving p r run k l) a in
          let earlier = counts_rise (activations_counted p r run k l) s a last.before in
          job_in_time k l (covers k l) m a s (m - activations p r k s) now inside last (omega arith)
