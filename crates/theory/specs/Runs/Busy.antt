-- The window theorem, free of tasks: what holds of a level (a task and its rivals) that is served whenever work of it is pending.
use Rattle.std.specs.Prelude.{ℕ, zero, suc, ◌+◌, ◌≤◌, ◌<◌, ◌≡◌}
use Rattle.std.proofs.Common.{add-zero, add-suc, arith}
use Rattle.std.proofs.Math.Decide.{dec_le}
use Rattle.theory.specs.Numbers.Sums.{rises}

-- A level, tick by tick: each number says how much there was before tick t.
pub record Level : Type 0 where
  -- Work activated, in ticks of cost: the task's own,
  pub own : ℕ → ℕ
  -- and its rivals'.
  pub rivals : ℕ → ℕ
  -- Ticks served: to the task,
  pub served_own : ℕ → ℕ
  -- and to its rivals.
  pub served_rivals : ℕ → ℕ
  -- Ticks lost to less urgent work.
  pub lost : ℕ → ℕ

-- All work of a level activated before tick t.
abbrev pub work : Level → ℕ → ℕ
work v t = v.own t + v.rivals t

-- All ticks served to a level before tick t.
abbrev pub service : Level → ℕ → ℕ
service v t = v.served_own t + v.served_rivals t

-- A level is quiet at t when it was served, before tick t, all its work activated before tick t.
abbrev pub Quiet : Level → ℕ → Type 0
Quiet v t = work v t ≤ service v t

-- Work of a level is pending at tick t: before t it was not served all its work activated up to and at t.
abbrev pub Pending : Level → ℕ → Type 0
Pending v t = service v t < work v (suc t)

-- The span of B ticks from s holds y ticks of the task's own work, besides its rivals' work activated and the ticks lost in it.
abbrev pub Holds : Level → ℕ → ℕ → ℕ → Type 0
Holds v s B y = y + (v.rivals (s + B) + v.lost (s + B)) ≤ B + (v.rivals s + v.lost s)

-- How a level is served.
pub record Serving (v : Level) : Type 0 where
  -- Before the first tick there is no work.
  pub start : Quiet v 0
  -- Work and service never fall.
  pub own_more : (t : ℕ) → v.own t ≤ v.own (suc t)
  pub rivals_more : (t : ℕ) → v.rivals t ≤ v.rivals (suc t)
  pub served_own_more : (t : ℕ) → v.served_own t ≤ v.served_own (suc t)
  pub served_rivals_more : (t : ℕ) → v.served_rivals t ≤ v.served_rivals (suc t)
  -- The rivals are served no more than their work.
  pub rivals_most : (t : ℕ) → v.served_rivals t ≤ v.rivals t
  -- A tick at which work is pending is served to the level, or lost.
  pub full : (t : ℕ) → Pending v t → service v t + v.lost t < service v (suc t) + v.lost (suc t)

-- Tick s is the last quiet one up to tick a.
pub record LastQuiet (v : Level) (a s : ℕ) : Type 0 where
  -- It is not after a,
  pub before : s ≤ a
  -- it is quiet,
  pub quiet : Quiet v s
  -- and no later one up to a is.
  pub last : (u : ℕ) → s < u → u ≤ a → Quiet v u → ⊥

-- The last quiet tick up to a is the last up to the next tick too, if that one is not quiet.
still_last : {v : Level} {a s : ℕ} → LastQuiet v a s → (Quiet v (suc a) → ⊥) → LastQuiet v (suc a) s
still_last {v} {a} {s} l not-next = record { before = omega arith; quiet = l.quiet; last = later }
  where
    -- no later tick is quiet
    later : (u : ℕ) → s < u → u ≤ suc a → Quiet v u → ⊥
    later u h g q =
        elim (dec_le u a) [
          | yes i ↦ l.last u h i q
          | no i ↦ let e : u ≡ suc a = omega arith in not-next (rw e at q)
        ]

module _ {v : Level} (serving : Serving v) where
  -- Up to any tick there is a last quiet one.
  pub last_quiet : (a : ℕ) → (s : ℕ) × LastQuiet v a s
  last_quiet zero = (0, record { before = omega arith; quiet = serving.start; last = λ u h g. omega arith })
  last_quiet (suc a) =
      elim (dec_le (work v (suc a)) (service v (suc a))) [
        | yes q ↦ (suc a, record { before = omega arith; quiet = q; last = λ u h g. omega arith })
        | no q ↦ let (s, l) = last_quiet a in (s, still_last l q)
      ]

  -- While work is pending at every tick, every tick is served to the level or lost.
  busy : (s B : ℕ) → ((u : ℕ) → s ≤ u → u < s + B → Pending v u)
      → B + (service v s + v.lost s) ≤ service v (s + B) + v.lost (s + B)
  busy s zero pending = rw add-zero (omega arith)
  busy s (suc B) pending =
      let before = busy s B (λ u h g. pending u h (omega arith)) in
      rw add-suc (omega (arith, serving.full (s + B) (pending (s + B) (omega arith) (omega arith))))

  -- Work is pending at a tick if the next one is not quiet.
  unquiet : (u : ℕ) → (Quiet v (suc u) → ⊥) → Pending v u
  unquiet u q = omega (arith, serving.served_own_more u, serving.served_rivals_more u)

  -- The window theorem: let s be the last quiet tick up to a, and x own work activated up to and at a, at most y of it from s
  -- on. If a span of B ticks from s holds y, x is done before it ends.
  pub finishes_by : (a s x y B : ℕ) → LastQuiet v a s → x ≤ v.own (suc a) → x ≤ v.own s + y → Holds v s B y
      → x ≤ v.served_own (s + B)
  finishes_by a s x y B l activated since holds =
      elim (dec_le x (v.served_own (s + B))) [
        | yes h ↦ h
        | no h ↦ omega (arith, busy s B (pending h), serving.rivals_most (s + B))
      ]
    where
      -- work is pending until x is done
      pending : (x ≤ v.served_own (s + B) → ⊥) → (u : ℕ) → s ≤ u → u < s + B → Pending v u
      pending h u i j =
          elim (dec_le (suc u) a) [
            | yes g ↦ unquiet u (l.last (suc u) (omega arith) g)
            | no g ↦ omega (
              arith,
              rises v.own serving.own_more (suc a) (suc u) (omega arith),
              rises v.served_own serving.served_own_more u (s + B) (omega arith),
              serving.rivals_most u,
              serving.rivals_more u,
            )
          ]

  -- The look ends: no span from the last quiet tick up to a ends by a and holds all own work activated in it, for it would end
  -- in a later quiet tick.
  pub look_ends : (a s y B : ℕ) → LastQuiet v a s → 0 < B → s + B ≤ a → v.own (s + B) ≤ v.own s + y → Holds v s B y → ⊥
  look_ends a s y B l some ended own holds =
      l.last (s + B) (omega arith) ended (omega (arith, busy s B pending))
    where
      -- work is pending in the span, as no tick in it is quiet
      pending : (u : ℕ) → s ≤ u → u < s + B → Pending v u
      pending u i j = unquiet u (l.last (suc u) (omega arith) (omega arith))
