-- A task's bound by computing: window after window, until the look at its jobs ends.
use Rattle.std.specs.Prelude.{ℕ, zero, suc, ◌+◌, ◌-◌, ◌≤◌, ◌<◌, max, ◌≡◌, refl, cond, ◌&&◌, leb}
use Rattle.std.proofs.Math.Option.{Option, none, some, bind}
use Rattle.std.proofs.Common.{true≢false, leb-true, leb-false, le-leb, le_refl, arith}
use Rattle.std.proofs.Math.Decide.{dec_le}
use Rattle.paper.specs.Limits.{most_ticks, most_jobs}
use Rattle.paper.specs.Streams.{d}
use Rattle.paper.specs.Windows.{Setting, Window, Ends, Delay, Bound, output, Bounded}
use Rattle.theory.specs.Numbers.Least.{least_one}
use Rattle.theory.specs.Numbers.Ranges.{Every, every_next}
use Rattle.theory.specs.Numbers.Tests.{both}
use Rattle.theory.specs.Task.Demand.{Proper}
use Rattle.theory.specs.Task.Preemptive.{bound_one}
use Rattle.theory.specs.Twin.Finding.{Says, choice, says_bind}
use Rattle.theory.specs.Twin.Window.{window, window_says}

-- What is found for a task: its bound R+ and the number of its jobs looked at.
pub record Found : Type 0 where
  pub R : ℕ
  pub jobs : ℕ

-- Looking on after m jobs, whose largest B(q) - d(q) is R, at no more than `fuel` jobs.
unfoldable pub look : (k : Setting) (fuel m R : ℕ) → Option Found
look k zero m R = none
look k (suc fuel) m R =
    bind (window k (suc m)) (λ B.
    let larger : ℕ = max R (B - d k.input (suc m)) in
    let later : Option Found = look k fuel (suc m) larger in
    cond (leb B (d k.input (suc m + 1))) (some (record { R = larger; jobs = suc m })) later)

-- The bound of a task and the jobs looked at, within limits.
unfoldable pub bound : Setting → Option Found
bound k =
    bind (look k most_jobs 0 0) (λ f.
    cond (leb k.input.J most_ticks && leb (output k.C- k.input f.R).J most_ticks) (some f) none)

-- Each window for 1 to n jobs is within limits.
abbrev Windows : Setting → ℕ → Type 0
Windows k n = Every n (λ q. (B : ℕ) × Window k q B × (B ≤ most_ticks))

-- m jobs were looked at: their windows are within limits, the look ends with none of them, and R is the largest B(q) - d(q)
-- of theirs (0 before the first).
record Looked (k : Setting) (m R : ℕ) : Type 0 where
  windows : Windows k m
  on : Every m (λ q. Ends k q → ⊥)
  reached : 0 < R → Delay k m R
  largest : (ticks : ℕ) → Delay k m ticks → ticks ≤ R

-- The bound is R and n jobs are looked at, the jobs and their windows within limits; nothing is said of the jitters.
record Seen (k : Setting) (R n : ℕ) : Type 0 where
  bound : Bound k R n
  few : n ≤ most_jobs
  windows : Windows k n

-- Before the first job.
looked_start : (k : Setting) → Looked k 0 0
looked_start k =
    record {
      windows = λ q a l. absurd (omega arith);
      on = λ q a l. absurd (omega arith);
      reached = λ h. absurd (omega arith);
      largest = λ ticks y. absurd (omega (arith, y.first, y.last));
    }

module _ {k : Setting} {m R B : ℕ} (looked : Looked k m R) (w : Window k (suc m) B) (within : B ≤ most_ticks) where
  -- With one job more, the largest B(q) - d(q) is one of theirs,
  next_reached : Delay k (suc m) (max R (B - d k.input (suc m)))
  next_reached =
      elim (dec_le R (B - d k.input (suc m))) [
        | yes own ↦ record { q = suc m; first = omega arith; last = le_refl _; B = B; window = w; is = omega arith }
        | no earlier ↦
            let y = looked.reached (omega arith) in
            record { q = y.q; first = y.first; last = omega arith; B = y.B; window = y.window; is = omega (arith, y.is) }
      ]

  -- none is larger,
  next_largest : (ticks : ℕ) → Delay k (suc m) ticks → ticks ≤ max R (B - d k.input (suc m))
  next_largest ticks y =
      elim (dec_le y.q m) [
        | yes l ↦
            let earlier : Delay k m ticks =
            record { q = y.q; first = y.first; last = l; B = y.B; window = y.window; is = y.is } in
            omega (arith, looked.largest ticks earlier)
        | no l ↦
            let last : y.q ≡ suc m = omega arith in
            let same : y.B ≡ B = least_one (rw last at y.window) w in
            let own : ticks ≡ B - d k.input (suc m) = rw (same, last) at y.is in
            omega arith
      ]

  -- and their windows are within limits.
  next_windows : Windows k (suc m)
  next_windows = every_next m looked.windows (B, w, within)

  -- Where the look does not end with this job, it is one of the jobs looked at.
  looked_next : (d k.input (suc m + 1) < B) → Looked k (suc m) (max R (B - d k.input (suc m)))
  looked_next apart =
      record {
        windows = next_windows;
        on = every_next m looked.on (λ e. omega (arith, e.apart, least_one e.window w));
        reached = λ h. next_reached;
        largest = next_largest;
      }

  -- Where it does, the bound and the jobs looked at are found.
  seen_last : B ≤ d k.input (suc m + 1) → suc m ≤ most_jobs → Seen k (max R (B - d k.input (suc m))) (suc m)
  seen_last apart few =
      record {
        bound =
            record {
              jobs =
                  record {
                    holds = (omega arith, record { B = B; window = w; apart = apart });
                    least = λ q e.
                        let later : ¬ (q ≤ m) = λ l. looked.on q e.0 l e.1 in
                        omega arith;
                  };
              largest = record { holds = next_reached; largest = next_largest };
            };
        few = few;
        windows = next_windows;
      }

-- With fuel for all jobs that may be looked at, the look finds the bound and the jobs looked at.
look_says : {k : Setting} → Proper k → (fuel m R : ℕ) → fuel + m ≡ most_jobs → Looked k m R
    → Says (λ f. Seen k f.R f.jobs) (look k fuel m R)
unfolding look
look_says proper zero m R all looked = λ f s.
    let last = s.bound.jobs.holds in
    looked.on f.jobs last.0 (omega (arith, s.few)) last.1
look_says {k} proper (suc fuel) m R all looked =
    says_bind (λ B. Window k (suc m) B × (B ≤ most_ticks)) (λ f. Seen k f.R f.jobs) (window k (suc m)) _
    (window_says proper (suc m) (omega arith))
    (λ B w.
    choice (Says (λ f. Seen k f.R f.jobs)) (leb B (d k.input (suc m + 1)))
    (λ ends. seen_last looked w.0 w.1 (leb-true _ _ ends) (omega arith))
    (λ on. look_says proper fuel (suc m) _ (omega arith) (looked_next looked w.0 w.1 (leb-false _ _ on))))
    (λ none f s.
    let last = s.bound.jobs.holds in
    let later : ¬ (f.jobs ≤ m) = λ l. looked.on f.jobs last.0 l last.1 in
    let w = s.windows (suc m) (omega arith) (omega arith) in
    none w.0 (w.1, w.2))

-- A bound within limits, with the jitters left aside.
seen_of : {k : Setting} {R n : ℕ} → Bounded k R n → Seen k R n
seen_of {n = n} b =
    let e : n ≡ b.within.n = least_one b.bound.jobs b.within.jobs in
    record { bound = b.bound; few = omega arith; windows = λ q a l. b.within.windows q a (omega arith) }

-- The bound that is found, with the jobs looked at, is the task's, within limits; where none is found, there is none.
pub bound_says : {k : Setting} → Proper k → Says (λ f. Bounded k f.R f.jobs) (bound k)
unfolding bound
bound_says {k} proper =
    let M = k.input in
    says_bind (λ f. Seen k f.R f.jobs) (λ f. Bounded k f.R f.jobs) (look k most_jobs 0 0) _
    (look_says proper most_jobs 0 0 refl (looked_start k))
    (λ f s.
    choice (Says (λ f. Bounded k f.R f.jobs)) (leb M.J most_ticks && leb (output k.C- M f.R).J most_ticks)
    (λ yea.
    let within = both _ _ yea in
    record {
      bound = s.bound;
      within =
          record {
            input = leb-true _ _ within.0;
            outputs = leb-true _ _ within.1;
            n = f.jobs;
            jobs = s.bound.jobs;
            few = s.few;
            windows = s.windows;
          };
    })
    (λ nay g b.
    let outputs : (output k.C- M f.R).J ≤ most_ticks = rw (bound_one b.bound s.bound).0 at b.within.outputs in
    true≢false (rw (le-leb _ _ b.within.input, le-leb _ _ outputs) at nay)))
    (λ none f b. none f (seen_of b))
