-- What it is to keep a model: the events trail evenly spaced moments, a period apart, by no more than the jitter.
use Rattle.std.specs.Prelude.{ℕ, zero, suc, ◌+◌, ◌-◌, ◌*◌, ◌≤◌, ◌<◌, ◌≡◌, ◌↔◌}
use Rattle.std.proofs.Common.{ap, arith}
use Rattle.std.proofs.Math.Decide.{dec_le, dec_lt}
use Rattle.paper.specs.Streams.{Stream}
use Rattle.paper.specs.Running.{At, Counts, Keeps}
use Rattle.theory.specs.Streams.Counting.{apart_on_grid, apart_near}
use Rattle.theory.specs.Streams.Counts.{counts_rise, in_order, one_tick, falls}

-- A tick for event m lies on the grid of a stream: no later than the latest moment for event 0 and m periods, and at most the
-- jitter sooner. The moment at which event m is due is that jitter sooner, and may lie before tick 0.
abbrev pub OnGrid : Stream → (latest m tick : ℕ) → Type 0
OnGrid M latest m tick = (tick ≤ latest + m * M.P) × (latest + m * M.P ≤ tick + M.J)

-- All events at ticks below T lie on the grid.
abbrev pub Trails : (T : ℕ) → Stream → (latest : ℕ) → (ℕ → ℕ) → Type 0
Trails T M latest counts = (m a : ℕ) → At counts m a → a < T → OnGrid M latest m a

-- Of the first N events, some one at a tick below T comes to the latest moment for event 0.
record Latest (T : ℕ) (M : Stream) (counts : ℕ → ℕ) (N : ℕ) : Type 0 where
  moment : ℕ
  -- That event
  event : ℕ
  -- falls on a tick below T,
  tick : ℕ
  falls_then : At counts event tick
  inside : tick < T
  -- as many periods after that moment as its number says,
  is : tick ≡ moment + event * M.P
  -- and no other of them is later.
  most : (m a : ℕ) → m < N → At counts m a → a ≤ moment + m * M.P

module _ (T : ℕ) (M : Stream) {counts : ℕ → ℕ} (counted : Counts counts) where
  -- A stream whose events trail evenly spaced moments keeps its model.
  pub trails_keep : (latest : ℕ) → Trails T M latest counts → Keeps T M counts
  trails_keep latest trails m n a b first last inside =
      let order = in_order counted m (m + n) a b (omega arith) first last in
      apart_on_grid M latest m n a b order
      (λ e. in_order counted (m + n) m b a (omega arith) last first)
      (trails m a first (omega arith))
      (trails (m + n) b last inside)

  -- One event more: it comes to the latest moment, or that stays what it was.
  one_more : (N : ℕ) → Latest T M counts N → (a : ℕ) → At counts N a → a < T → Latest T M counts (suc N)
  one_more N l a next before =
      elim (dec_le a (l.moment + N * M.P)) [
        | yes sooner ↦ record {
          moment = l.moment;
          event = l.event;
          tick = l.tick;
          falls_then = l.falls_then;
          inside = l.inside;
          is = l.is;
          most = λ m b i at. among l.moment (omega arith) m b i at;
        }
        | no later ↦ record {
          moment = a - N * M.P;
          event = N;
          tick = a;
          falls_then = next;
          inside = before;
          is = omega arith;
          most = λ m b i at. among (a - N * M.P) (omega arith) m b i at;
        }
      ]
    where
      -- no event is later than a moment that neither the new one nor the latest before it passes
      among : (moment : ℕ) → (l.moment ≤ moment) × (a ≤ moment + N * M.P)
          → (m b : ℕ) → m < suc N → At counts m b → b ≤ moment + m * M.P
      among moment h m b i at =
          elim (dec_lt m N) [
            | yes earlier ↦ omega (arith, l.most m b earlier at)
            | no last ↦
                let e : m ≡ N = omega arith in
                omega (arith, one_tick counted N b a (rw e at at) next, ap (λ n. n * M.P) e)
          ]

  -- So some one of the first N events does, N at least 1.
  latest : (N : ℕ) → suc N ≤ counts T → Latest T M counts (suc N)
  latest zero h =
      let (a, before, first) = falls counted 0 T h in
      record {
        moment = a;
        event = 0;
        tick = a;
        falls_then = first;
        inside = before;
        is = omega arith;
        most = λ m b l at. omega (arith, in_order counted m 0 b a (omega arith) at first);
      }
  latest (suc N) h =
      let (a, before, next) = falls counted (suc N) T h in
      one_more (suc N) (latest N (omega arith)) a next before

  -- In a stream that keeps its model every event is at most the jitter sooner than the latest moment says.
  not_early : Keeps T M counts → (N : ℕ) (l : Latest T M counts N) (m a : ℕ) → At counts m a → a < T
      → l.moment + m * M.P ≤ a + M.J
  not_early keeps N l m a at before =
      elim (dec_le l.event m) [
        | yes later ↦
            let n = m - l.event in
            let e : l.event + n ≡ m = omega arith in
            omega (
              arith,
              apart_near M n l.tick a (keeps l.event n l.tick a l.falls_then (rw e at) before),
              ap (λ n. n * M.P) e,
            )
        | no sooner ↦
            let n = l.event - m in
            let e : m + n ≡ l.event = omega arith in
            omega (
              arith,
              apart_near M n a l.tick (keeps m n a l.tick at (rw e l.falls_then) l.inside),
              ap (λ n. n * M.P) e,
            )
      ]

  -- A stream that keeps its model trails evenly spaced moments.
  pub keeps_trail : Keeps T M counts → (latest : ℕ) × Trails T M latest counts
  keeps_trail keeps =
      elim (dec_le 1 (counts T)) [
        | no none ↦ (0, λ m a at before. absurd (omega (arith, inside m a at before)))
        | yes some ↦
            let e : suc (counts T - 1) ≡ counts T = omega arith in
            let l = latest (counts T - 1) (omega arith) in (
              l.moment,
              λ m a at before. (
                l.most m a (omega (arith, inside m a at before)) at,
                not_early keeps (suc (counts T - 1)) l m a at before,
              ),
            )
      ]
    where
      -- an event at a tick below T is one of those counted there
      inside : (m a : ℕ) → At counts m a → a < T → m < counts T
      inside m a at before = omega (arith, counts_rise counted (suc a) T before)

-- A stream keeps its model exactly when its events trail evenly spaced moments, a period apart, by no more than the jitter.
pub keeps_exactly : (T : ℕ) (M : Stream) {counts : ℕ → ℕ} → Counts counts
    → Keeps T M counts ↔ ((latest : ℕ) × Trails T M latest counts)
keeps_exactly T M counted = (keeps_trail T M counted, λ s. trails_keep T M counted s.0 s.1)
