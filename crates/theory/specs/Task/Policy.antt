-- The bound of one task under a policy, whichever it is: what a policy gives, what is asked of it, and what follows.
use Rattle.std.specs.Prelude.{ℕ, ◌+◌, ◌-◌, ◌≤◌, ◌≡◌, refl}
use Rattle.std.proofs.Common.{subst, le_refl, arith}
use Rattle.paper.specs.Words.{IsLargest}
use Rattle.theory.specs.Numbers.Least.{largest_one}
use Rattle.theory.specs.Numbers.Ranges.{Every, every_decided, every_chosen, every_peak}

-- A policy, seen from one task.
pub record Policy : Type 1 where
  -- What the bound is worked out from,
  pub Input : Type 0
  -- and whether one such is milder than another.
  pub Milder : Input → Input → Type 0
  -- The window for q jobs, B(q), is B,
  pub Window : Input → ℕ → ℕ → Type 0
  -- n jobs are looked at,
  pub Jobs : Input → ℕ → Type 0
  -- and q jobs are activated so far apart at least.
  pub dist : Input → ℕ → ℕ
  -- The input jitter, and the output jitter that the bound R gives, are within limits.
  pub Jitters : Input → ℕ → Type 0
  -- C+,
  pub cost : Input → ℕ
  -- the longest window within limits,
  pub top : ℕ
  -- and the most jobs looked at.
  pub most : ℕ

module _ (𝓟 : Policy) where
  open 𝓟 use {Input, Milder, Window, Jobs, dist, Jitters, cost, top, most}

  -- B(q) - d(q) for some q from 1 to n.
  pub record DelayUnder (i : Input) (n ticks : ℕ) : Type 0 where
    pub q : ℕ
    pub first : 1 ≤ q
    pub last : q ≤ n
    pub B : ℕ
    pub window : Window i q B
    pub is : ticks ≡ B - dist i q

  -- The bound is R, and n jobs are looked at.
  pub record BoundUnder (i : Input) (R n : ℕ) : Type 0 where
    pub jobs : Jobs i n
    pub largest : IsLargest (DelayUnder i n) R

  -- Each window for 1 to n jobs is within limits.
  abbrev pub WindowsUnder : Input → ℕ → Type 0
  WindowsUnder i n = Every n (λ q. (B : ℕ) × Window i q B × (B ≤ top))

  -- The bound is R, n jobs are looked at, and all is within limits.
  pub record BoundedUnder (i : Input) (R n : ℕ) : Type 0 where
    pub bound : BoundUnder i R n
    pub few : n ≤ most
    pub windows : WindowsUnder i n
    pub jitters : Jitters i R

  -- What is asked of a policy.
  pub record Laws : Type 0 where
    -- A window is one number.
    pub window_one : (i : Input) (q B B' : ℕ) → Window i q B → Window i q B' → B ≡ B'
    -- A milder input has each window that the other has, and no longer.
    pub window_milder : (i i' : Input) (q B' : ℕ) → Milder i i' → 1 ≤ q → Window i' q B'
        → (B : ℕ) × Window i q B × (B ≤ B')
    -- Whether there is a window within limits can be decided.
    pub window_decided : (i : Input) (q : ℕ) → 1 ≤ q → Dec ((B : ℕ) × Window i q B × (B ≤ top))
    -- The first window holds the cost.
    pub window_cost : (i : Input) (B : ℕ) → Window i 1 B → cost i ≤ B
    -- The jobs looked at are one number,
    pub jobs_one : (i : Input) (n n' : ℕ) → Jobs i n → Jobs i n' → n ≡ n'
    -- at least 1.
    pub jobs_some : (i : Input) (n : ℕ) → Jobs i n → 1 ≤ n
    -- A milder input has jobs to look at where the other has, and no more.
    pub jobs_milder : (i i' : Input) (n' : ℕ) → Milder i i' → Jobs i' n' → (n : ℕ) × Jobs i n × (n ≤ n')
    -- Whether there are jobs to look at, few enough, can be decided.
    pub jobs_decided : (i : Input) → Dec ((n : ℕ) × Jobs i n × (n ≤ most))
    -- There is a window for each of the jobs looked at.
    pub jobs_windows : (i : Input) (n : ℕ) → Jobs i n → Every n (λ q. (B : ℕ) × Window i q B)
    -- A single job has no distance.
    pub dist_one : (i : Input) → dist i 1 ≡ 0
    -- The jobs of a milder input lie no closer.
    pub dist_milder : (i i' : Input) (q : ℕ) → Milder i i' → dist i' q ≤ dist i q
    -- A milder input with a bound no larger has its jitters within limits where the other has.
    pub jitters_milder : (i i' : Input) (R R' : ℕ) → Milder i i' → R ≤ R' → Jitters i' R' → Jitters i R
    -- Whether the jitters are within limits can be decided.
    pub jitters_decided : (i : Input) (R : ℕ) → Dec (Jitters i R)

module _ {𝓟 : Policy} (laws : Laws 𝓟) where
  open 𝓟 use {Input, Milder, Window, Jobs, dist, Jitters, cost, top, most}

  -- The bound is one number, and so are the jobs looked at.
  pub under_one : {i : Input} {R R' n n' : ℕ} → BoundUnder 𝓟 i R n → BoundUnder 𝓟 i R' n' → (R ≡ R') × (n ≡ n')
  under_one {i} {R} {n = n} {n'} b b' =
      let e = laws.jobs_one i n n' b.jobs b'.jobs in
      (largest_one (subst (λ m. IsLargest (DelayUnder 𝓟 i m) R) e b.largest) b'.largest, e)

  -- A window is no longer than the bound and the distance of its jobs together.
  pub under_covers : {i : Input} {R n : ℕ} → BoundUnder 𝓟 i R n
      → (q B : ℕ) → 1 ≤ q → q ≤ n → Window i q B → B ≤ R + dist i q
  under_covers {i} {n = n} b q B a l w =
      let y : DelayUnder 𝓟 i n (B - dist i q) = record { q = q; first = a; last = l; B = B; window = w; is = refl } in
      omega (arith, b.largest.largest (B - dist i q) y)

  -- Where there are jobs to look at, there is a bound.
  pub under_exists : (i : Input) (n : ℕ) → Jobs i n → (R : ℕ) × BoundUnder 𝓟 i R n
  under_exists i n jobs =
      let chosen = every_chosen {P = Window i} n (laws.jobs_windows i n jobs) in
      let B = chosen.0 in
      let peak = every_peak (λ q. B q - dist i q) n (laws.jobs_some i n jobs) in
      let q = peak.0 in
      let peak_delay : DelayUnder 𝓟 i n (B q - dist i q) =
      record { q = q; first = peak.1; last = peak.2; B = B q; window = chosen.1 q peak.1 peak.2; is = refl } in
      let none_larger : (ticks : ℕ) → DelayUnder 𝓟 i n ticks → ticks ≤ B q - dist i q =
      λ ticks y.
      let e = laws.window_one i y.q y.B (B y.q) y.window (chosen.1 y.q y.first y.last) in
      omega (arith, peak.3 y.q y.first y.last) in
      (B q - dist i q, record { jobs = jobs; largest = record { holds = peak_delay; largest = none_larger } })

  -- The bound of a milder input is no larger, limits aside.
  pub under_grows : {i i' : Input} {R R' n n' : ℕ} → Milder i i' → BoundUnder 𝓟 i R n → BoundUnder 𝓟 i' R' n' → R ≤ R'
  under_grows {i} {i'} {n = n} {n'} m b b' =
      let y = b.largest.holds in
      let j = laws.jobs_milder i i' n' m b'.jobs in
      let few : y.q ≤ n' = omega (arith, laws.jobs_one i n j.0 b.jobs j.1) in
      let w' = laws.jobs_windows i' n' b'.jobs y.q y.first few in
      let w = laws.window_milder i i' y.q w'.0 m y.first w'.1 in
      let c = under_covers b' y.q w'.0 y.first few w'.1 in
      omega (arith, laws.window_one i y.q y.B w.0 y.window w.1, laws.dist_milder i i' y.q m)

  -- A milder input has a bound within limits where the other has.
  pub under_milder : {i i' : Input} {R' n' : ℕ} → Milder i i' → BoundedUnder 𝓟 i' R' n'
      → (R : ℕ) × (n : ℕ) × BoundedUnder 𝓟 i R n
  under_milder {i} {i'} {R'} {n'} m b =
      let j = laws.jobs_milder i i' n' m b.bound.jobs in
      let n = j.0 in
      let r = under_exists i n j.1 in
      let R = r.0 in
      let windows : WindowsUnder 𝓟 i n =
      λ q a l.
      let w' = b.windows q a (omega arith) in
      let w = laws.window_milder i i' q w'.0 m a w'.1 in
      (w.0, w.1, omega arith) in
      let jitters = laws.jitters_milder i i' R R' m (under_grows m r.1 b.bound) b.jitters in
      (R, n, record { bound = r.1; few = omega arith; windows = windows; jitters = jitters })

  -- The bound is no smaller than the cost,
  pub under_least : {i : Input} {R n : ℕ} → BoundUnder 𝓟 i R n → cost i ≤ R
  under_least {i} {n = n} b =
      let some = laws.jobs_some i n b.jobs in
      let w = laws.jobs_windows i n b.jobs 1 (le_refl _) some in
      let c = under_covers b 1 w.0 (le_refl _) some w.1 in
      omega (arith, laws.dist_one i, laws.window_cost i w.0 w.1)

  -- and within limits no larger than the longest window.
  pub under_most : {i : Input} {R n : ℕ} → BoundedUnder 𝓟 i R n → R ≤ top
  under_most {i} b =
      let y = b.bound.largest.holds in
      let w = b.windows y.q y.first y.last in
      omega (arith, laws.window_one i y.q y.B w.0 y.window w.1)

  -- Where the jobs looked at and their windows are within limits, whether the bound is can be decided.
  bound_decided : (i : Input) (n : ℕ) → Jobs i n → n ≤ most → WindowsUnder 𝓟 i n
      → Dec ((R : ℕ) × (n : ℕ) × BoundedUnder 𝓟 i R n)
  bound_decided i n jobs few windows =
      let r = under_exists i n jobs in
      elim (laws.jitters_decided i r.0) [
        | yes jitters ↦ yes (r.0, n, record { bound = r.1; few = few; windows = windows; jitters = jitters })
        | no none ↦ no (λ b. none (subst (Jitters i) (under_one b.2.bound r.1).0 b.2.jitters))
      ]

  -- Whether there is a bound within limits can be decided.
  pub under_decided : (i : Input) → Dec ((R : ℕ) × (n : ℕ) × BoundedUnder 𝓟 i R n)
  under_decided i =
      elim (laws.jobs_decided i) [
        | no none ↦ no (λ b. none (b.1, b.2.bound.jobs, b.2.few))
        | yes j ↦
            elim (every_decided (laws.window_decided i) j.0) [
              | yes windows ↦ bound_decided i j.0 j.1 j.2 windows
              | no none ↦
                  no (λ b.
                  let e = laws.jobs_one i b.1 j.0 b.2.bound.jobs j.1 in
                  none (λ q a l. b.2.windows q a (omega arith)))
            ]
      ]
