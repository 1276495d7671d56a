-- Which runs there are: outside events at any ticks that trail evenly spaced moments, in order, and any costs from C- to C+.
use Prim.Native.Nat.{ℕ, zero, suc, ◌≤◌, ◌<◌}
use Rattle.std.specs.Prelude.{◌≡◌, refl, ◌↔◌}
use Rattle.std.proofs.Math.Dec.{ltb}
use Rattle.std.proofs.Common.{lt-ltb, le-ltb, add-one}
use Rattle.std.proofs.Math.Nat.{add-zero}
use Rattle.std.proofs.Math.Decide.{dec_lt}
use native.Mathlib.Omega.{arith}
use Rattle.paper.specs.Words.{sum, count}
use Rattle.paper.specs.Tables.{outside, Plan}
use Rattle.paper.specs.Streams.{Stream}
use Rattle.paper.specs.Running.{At, Counts, RunOf}
use Rattle.theory.specs.Numbers.Sums.{rises}
use Rattle.theory.specs.Streams.Grid.{OnGrid, trails_keep}

-- So many events, event m at tick `at m`, as counts: how many fall on ticks below t.
unfoldable pub events_at : (many : ℕ) → (at : ℕ → ℕ) → ℕ → ℕ
events_at many at t = count many (λ m. ltb (at m) t)

-- Where all events fall on ticks below t, all are counted there.
all_before : (at : ℕ → ℕ) (many t : ℕ) → ((m : ℕ) → m < many → at m < t) → events_at many at t ≡ many
unfolding events_at count sum
all_before at zero t before = refl
all_before at (suc many) t before =
    rw (lt-ltb _ _ (before many (omega arith)), all_before at many t (λ m l. before m (omega arith)), add-one many)

module _ (at : ℕ → ℕ) (order : (m : ℕ) → at m ≤ at (suc m)) where
  -- Of events in order, those that fall on ticks below t are the first ones.
  pub first_ones : (many t m : ℕ) → (m < events_at many at t) ↔ ((m < many) × (at m < t))
  unfolding events_at count sum
  first_ones zero t m = (λ l. absurd (omega arith), λ l. absurd (omega arith))
  first_ones (suc many) t m =
      elim (dec_lt (at many) t) [
        | yes last ↦
            let before : (m : ℕ) → m < suc many → at m < t = λ m l. omega (arith, rises at order m many (omega arith)) in
            rw (all_before at (suc many) t before) (λ l. (l, before m l), λ l. l.0)
        | no last ↦
            rw (le-ltb (at many) t (omega arith), add-zero (count many (λ m. ltb (at m) t))) (
              λ l. let (counted, before) = (first_ones many t m).0 l in (omega arith, before),
              λ l. (first_ones many t m).1 (still m last l, l.1),
            )
      ]
    where
      -- an event before t is not the last, which is not
      still : (m : ℕ) → (at many < t → ⊥) → (m < suc many) × (at m < t) → m < many
      still m late (counted, before) =
          elim (dec_lt m many) [
            | yes l ↦ l
            | no l ↦ let e : m ≡ many = omega arith in absurd (late (rw (← e) before))
          ]

  -- Event m falls on tick `at m`, and on no other.
  pub falls_at : (many m a : ℕ) → At (events_at many at) m a ↔ ((m < many) × (a ≡ at m))
  falls_at many m a = (there, back)
    where
      there : At (events_at many at) m a → (m < many) × (a ≡ at m)
      there f =
          let (counted, by) = (first_ones many (suc a) m).0 f.by in
          let after : at m < a → ⊥ = λ before. omega (arith, f.after, (first_ones many a m).1 (counted, before)) in
          (counted, omega arith)

      back : (m < many) × (a ≡ at m) → At (events_at many at) m a
      back (counted, e) =
          let by = (first_ones many (suc a) m).1 (counted, omega arith) in
          let after : m < events_at many at a → ⊥ = λ before. omega (arith, ((first_ones many a m).0 before).1) in
          record { after = omega arith; by = by }

  -- They are counts.
  pub events_counted : (many : ℕ) → Counts (events_at many at)
  events_counted many = record { none = none; more = more }
    where
      none : events_at many at 0 ≡ 0
      none =
          elim (dec_lt 0 (events_at many at 0)) [
            | yes some ↦ absurd (omega (arith, ((first_ones many 0 0).0 some).1))
            | no l ↦ omega arith
          ]

      more : (t : ℕ) → events_at many at t ≤ events_at many at (suc t)
      more t =
          let n = events_at many at (suc t) in
          elim (dec_lt n (events_at many at t)) [
            | yes fewer ↦
                let (counted, before) = (first_ones many t n).0 fewer in
                absurd (omega (arith, (first_ones many (suc t) n).1 (counted, omega arith)))
            | no l ↦ omega arith
          ]

-- Any such run is a run of the plan: of so many ticks; with any number of events for each task fed from outside, in order, each on
-- the grid of its stream, wherever that begins; with any costs from C- to C+, job by job.
pub grid_run : (p : Plan) (ticks : ℕ) (many latest : ℕ → ℕ) (at cost : ℕ → ℕ → ℕ)
    → ((k m : ℕ) → k < p.tasks → at k m ≤ at k (suc m))
    → ((k : ℕ) (M : Stream) (m : ℕ) → k < p.tasks → (p.task k).source ≡ outside M → m < many k → OnGrid M (latest k) m (at k m))
    → ((k m : ℕ) → k < p.tasks → ((p.task k).C- ≤ cost k m) × (cost k m ≤ (p.task k).C+))
    → RunOf p (record { ticks = ticks; events = λ k. events_at (many k) (at k); cost = cost })
grid_run p ticks many latest at cost order on-grid between =
    record {
      counted = λ k M l e. events_counted (at k) (λ m. order k m l) (many k);
      keeps = λ k M l e.
          trails_keep ticks M (events_counted (at k) (λ m. order k m l) (many k)) (latest k) (λ m a f inside.
          let (counted, is) = (falls_at (at k) (λ m. order k m l) (many k) m a).0 f in
          rw is (on-grid k M m l e counted));
      least = λ k m l. (between k m l).0;
      most = λ k m l. (between k m l).1;
    }
