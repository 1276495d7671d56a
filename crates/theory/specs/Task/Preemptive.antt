-- The base policy, static priority and preemptive, is a policy; what follows for a task's bound by document 01.
use Rattle.std.specs.Prelude.{ℕ, suc, ◌+◌, ◌*◌, ◌≤◌, ◌≡◌}
use Rattle.std.proofs.Common.{ap, subst, ⊎_elim, le_refl, mul-le-mul_right, arith}
use Rattle.std.proofs.Math.Decide.{map_dec, dec_le}
use Rattle.paper.specs.Words.{IsLargest}
use Rattle.paper.specs.Limits.{most_ticks, most_jobs}
use Rattle.paper.specs.Streams.{d}
use Rattle.paper.specs.Windows.{Setting, Window, Ends, Jobs, Delay, Bound, output, Bounded}
use Rattle.theory.specs.Numbers.Least.{least_one, largest_one, search_least}
use Rattle.theory.specs.Numbers.Ranges.{Every, every_chosen}
use Rattle.theory.specs.Numbers.FixedPoints.{fixed_decided, fixed_smaller}
use Rattle.theory.specs.Streams.Counting.{milder_output, d_one, d_falls}
use Rattle.theory.specs.Task.Policy.{Policy, Laws, DelayUnder, BoundUnder, BoundedUnder}
use Rattle.theory.specs.Task.Policy.{under_covers, under_grows, under_milder, under_least, under_most, under_decided}
use Rattle.theory.specs.Task.Demand.{Proper, ◌≼◌, Inequalities, demand_rises}

-- A proper setting.
abbrev pub Input : Type 0
Input = (k : Setting) × Proper k

-- The base policy.
abbrev pub preemptive : Policy
preemptive =
    record {
      Input = Input;
      Milder = λ i i'. i.0 ≼ i'.0;
      Window = λ i. Window i.0;
      Jobs = λ i. Jobs i.0;
      dist = λ i. d i.0.input;
      Jitters = λ i R. (i.0.input.J ≤ most_ticks) × ((output i.0.C- i.0.input R).J ≤ most_ticks);
      cost = λ i. i.0.C+;
      top = most_ticks;
      most = most_jobs;
    }

-- Document 01's delays are those under the base policy,
delay_under : (i : Input) (n ticks : ℕ) → Delay i.0 n ticks → DelayUnder preemptive i n ticks
delay_under i n ticks y =
    record { q = y.q; first = y.first; last = y.last; B = y.B; window = y.window; is = y.is }

-- and the other way round.
under_delay : (i : Input) (n ticks : ℕ) → DelayUnder preemptive i n ticks → Delay i.0 n ticks
under_delay i n ticks y =
    record { q = y.q; first = y.first; last = y.last; B = y.B; window = y.window; is = y.is }

-- Its bounds are those under the base policy,
bound_under : (i : Input) {R n : ℕ} → Bound i.0 R n → BoundUnder preemptive i R n
bound_under i {R} {n} b =
    record {
      jobs = b.jobs;
      largest =
          record {
            holds = delay_under i n R b.largest.holds;
            largest = λ ticks y. b.largest.largest ticks (under_delay i n ticks y);
          };
    }

-- and the other way round.
under_bound : (i : Input) {R n : ℕ} → BoundUnder preemptive i R n → Bound i.0 R n
under_bound i {R} {n} b =
    record {
      jobs = b.jobs;
      largest =
          record {
            holds = under_delay i n R b.largest.holds;
            largest = λ ticks y. b.largest.largest ticks (delay_under i n ticks y);
          };
    }

-- Its bounds within limits are those under the base policy,
bounded_under : (i : Input) {R n : ℕ} → Bounded i.0 R n → BoundedUnder preemptive i R n
bounded_under i {n = n} b =
    let e : n ≡ b.within.n = least_one b.bound.jobs b.within.jobs in
    record {
      bound = bound_under i b.bound;
      few = omega arith;
      windows = λ q a l. b.within.windows q a (omega arith);
      jitters = (b.within.input, b.within.outputs);
    }

-- and the other way round.
under_bounded : (i : Input) {R n : ℕ} → BoundedUnder preemptive i R n → Bounded i.0 R n
under_bounded i {n = n} b =
    record {
      bound = under_bound i b.bound;
      within =
          record {
            input = b.jitters.0;
            outputs = b.jitters.1;
            n = n;
            jobs = b.bound.jobs;
            few = b.few;
            windows = b.windows;
          };
    }

-- For a milder setting there is a window where there is one for the other, and it is no longer.
window_milder : (i i' : Input) (q B' : ℕ) → i.0 ≼ i'.0 → 1 ≤ q → Window i'.0 q B'
    → (B : ℕ) × Window i.0 q B × (B ≤ B')
window_milder i i' q B' m a =
    fixed_smaller (demand_rises i.1 q a) (λ t. omega (arith, m.interference t, ap (λ C. q * C) m.most))

-- There is a window for each of the jobs looked at: there is one for the last, and fewer jobs demand no more.
jobs_windows : (i : Input) (n : ℕ) → Jobs i.0 n → Every n (λ q. (B : ℕ) × Window i.0 q B)
jobs_windows i n j q a l =
    let fewer = mul-le-mul_right i.0.C+ l in
    let w = fixed_smaller (demand_rises i.1 q a) (λ t. omega (arith, fewer)) j.holds.1.window in
    (w.0, w.1)

-- Whether d(q+1) is at least B(q) can be decided.
ends_decided : (i : Input) (q : ℕ) → Dec ((1 ≤ q) × Ends i.0 q)
ends_decided i q =
    elim (dec_le 1 q) [
      | no none ↦ no (λ e. none e.0)
      | yes a ↦
          elim (fixed_decided (demand_rises i.1 q a) (d i.0.input (q + 1))) [
            | no none ↦ no (λ e. none (e.1.B, e.1.window, e.1.apart))
            | yes w ↦ yes (a, record { B = w.0; window = w.1; apart = w.2 })
          ]
    ]

-- For a milder setting d(q+1) is at least B(q) where it is for the other.
ends_milder : (i i' : Input) (q : ℕ) → i.0 ≼ i'.0 → (1 ≤ q) × Ends i'.0 q → (1 ≤ q) × Ends i.0 q
ends_milder i i' q m e =
    let w = window_milder i i' q e.1.B m e.0 e.1.window in (
      e.0,
      record {
        B = w.0;
        window = w.1;
        apart = omega (arith, d_falls i.0.input i'.0.input (q + 1) m.input);
      },
    )

-- For a milder setting there are jobs to look at where there are for the other, and no more.
jobs_milder : (i i' : Input) (n' : ℕ) → i.0 ≼ i'.0 → Jobs i'.0 n' → (n : ℕ) × Jobs i.0 n × (n ≤ n')
jobs_milder i i' n' m j =
    ⊎_elim
    (λ f. (f.0, f.1, omega arith))
    (λ none. absurd (none n' (le_refl _) (ends_milder i i' n' m j.holds)))
    (search_least (ends_decided i) (suc n'))

-- Whether there are jobs to look at, up to a limit, can be decided.
jobs_decided : (i : Input) (most : ℕ) → Dec ((n : ℕ) × Jobs i.0 n × (n ≤ most))
jobs_decided i most =
    ⊎_elim
    (λ f. yes (f.0, f.1, omega arith))
    (λ none. no (λ j. none j.0 (omega arith) j.1.holds))
    (search_least (ends_decided i) (suc most))

-- Whether two numbers are both within a limit can be decided.
both_decided : (m n top : ℕ) → Dec ((m ≤ top) × (n ≤ top))
both_decided m n top =
    elim (dec_le m top) [
      | no none ↦ no (λ h. none h.0)
      | yes i ↦ elim (dec_le n top) [ no none ↦ no (λ h. none h.1) | yes o ↦ yes (i, o) ]
    ]

-- The base policy keeps the laws of a policy.
pub preemptive_laws : Laws preemptive
preemptive_laws =
    record {
      window_one = λ i q B B' w w'. least_one w w';
      window_milder = window_milder;
      window_decided = λ i q a. fixed_decided (demand_rises i.1 q a) most_ticks;
      window_cost = λ i B w. omega arith;
      jobs_one = λ i n n' j j'. least_one j j';
      jobs_some = λ i n j. j.holds.0;
      jobs_milder = jobs_milder;
      jobs_decided = λ i. jobs_decided i most_jobs;
      jobs_windows = jobs_windows;
      dist_one = λ i. d_one i.0.input;
      dist_milder = λ i i' q m. d_falls i.0.input i'.0.input q m.input;
      jitters_milder = λ i i' R R' m h l.
          let o = (milder_output i.0.C- i.0.input i'.0.input R R' m.input h).jitter in
          let e = ap (λ C. (output C i'.0.input R').J) m.least in
          omega (arith, m.input.jitter);
      jitters_decided = λ i R. both_decided i.0.input.J (output i.0.C- i.0.input R).J most_ticks;
    }

-- A task's bound is one number, and so are the jobs looked at,
pub bound_one : {k : Setting} {R R' n n' : ℕ} → Bound k R n → Bound k R' n' → (R ≡ R') × (n ≡ n')
bound_one {k} {R} {n = n} {n'} b b' =
    let e : n ≡ n' = least_one b.jobs b'.jobs in
    (largest_one (subst (λ m. IsLargest (Delay k m) R) e b.largest) b'.largest, e)

-- within limits too.
pub bounded_one : {k : Setting} {R R' n n' : ℕ} → Bounded k R n → Bounded k R' n' → (R ≡ R') × (n ≡ n')
bounded_one b b' = bound_one b.bound b'.bound

module _ {k k' : Setting} (proper : Proper k) (proper' : Proper k') (milder : k ≼ k') where
  -- For a milder setting a task's bound is no larger, limits aside,
  pub bound_grows : {R R' n n' : ℕ} → Bound k R n → Bound k' R' n' → R ≤ R'
  bound_grows b b' = under_grows preemptive_laws milder (bound_under (k, proper) b) (bound_under (k', proper') b')

  -- and there is one within limits where there is for the other.
  pub bounded_milder : {R' n' : ℕ} → Bounded k' R' n' → (R : ℕ) × (n : ℕ) × Bounded k R n
  bounded_milder b =
      let r = under_milder preemptive_laws {i = (k, proper)} milder (bounded_under (k', proper') b) in
      (r.0, r.1, under_bounded (k, proper) r.2)

module _ {k : Setting} (proper : Proper k) where
  -- A task's bound is no smaller than C+,
  pub bound_least : {R n : ℕ} → Bound k R n → k.C+ ≤ R
  bound_least b = under_least preemptive_laws (bound_under (k, proper) b)

  -- and within limits no larger than a window may be.
  pub bounded_most : {R n : ℕ} → Bounded k R n → R ≤ most_ticks
  bounded_most b = under_most preemptive_laws (bounded_under (k, proper) b)

  -- Whether a task has a bound within limits can be decided.
  pub bounded_decided : Dec ((R : ℕ) × (n : ℕ) × Bounded k R n)
  bounded_decided =
      map_dec
      (λ b. (b.0, b.1, under_bounded (k, proper) b.2))
      (λ b. (b.0, b.1, bounded_under (k, proper) b.2))
      (under_decided preemptive_laws (k, proper))

  -- A task's bound says its inequalities.
  pub bound_says : {R n : ℕ} → Bound k R n → Inequalities k R n
  bound_says {n = n} b =
      let chosen = every_chosen {P = Window k} n (jobs_windows (k, proper) n b.jobs) in
      let B = chosen.0 in
      let window = chosen.1 in
      let last = b.jobs.holds in
      record {
        some = last.0;
        B = B;
        above = λ q a l. (window q a l).holds.0;
        holds = λ q a l. omega (arith, (window q a l).holds.1);
        within = λ q a l. under_covers preemptive_laws (bound_under (k, proper) b) q (B q) a l (window q a l);
        ends = omega (arith, least_one last.1.window (window n last.0 (le_refl n)));
      }
