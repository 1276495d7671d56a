-- Streams as counts: on which tick an event falls, how many events fall in a span, and the most that can.
use Rattle.std.specs.Prelude.{ℕ, zero, suc, ◌+◌, ◌-◌, ◌≤◌, ◌<◌, ◌≡◌, refl}
use Rattle.std.proofs.Math.Decide.{dec_le, dec_lt}
use Rattle.std.proofs.Common.{arith}
use Rattle.paper.specs.Streams.{Stream, d, most_events}
use Rattle.paper.specs.Running.{At, Keeps, Counts}
use Rattle.theory.specs.Numbers.Sums.{rises}
use Rattle.theory.specs.Streams.Counting.{counting, milder_refl, most_events_grows}

-- The most events in a span, as it grows, are counts.
pub most_counted : (M : Stream) → Counts (most_events M)
unfolding most_events
most_counted M = record { none = refl; more = λ t. most_events_grows M M t (suc t) (milder_refl M) (omega arith) }

module _ {counts : ℕ → ℕ} (counted : Counts counts) where
  -- Counts never fall.
  pub counts_rise : (s t : ℕ) → s ≤ t → counts s ≤ counts t
  counts_rise = rises counts counted.more

  -- Fewer events before tick a than up to and at tick b: a is no later than b.
  pub no_later : (a b : ℕ) → counts a < counts (suc b) → a ≤ b
  no_later a b h =
      elim (dec_le a b) [
        | yes l ↦ l
        | no l ↦ omega (arith, counts_rise (suc b) a (omega arith))
      ]

  -- Events fall on their ticks in order.
  pub in_order : (m n a b : ℕ) → m ≤ n → At counts m a → At counts n b → a ≤ b
  in_order m n a b h f g = no_later a b (omega arith)

  -- An event falls on one tick.
  pub one_tick : (m a b : ℕ) → At counts m a → At counts m b → a ≡ b
  one_tick m a b f g = omega (arith, in_order m m a b (omega arith) f g, in_order m m b a (omega arith) g f)

  -- An event counted before tick t falls on a tick before t.
  pub falls : (m t : ℕ) → m < counts t → (a : ℕ) × (a < t) × At counts m a
  falls m zero h = absurd (omega (arith, counted.none))
  falls m (suc t) h =
      elim (dec_lt m (counts t)) [
        | yes l ↦ let (a, i, f) = falls m t l in (a, omega arith, f)
        | no l ↦ (t, omega arith, record { after = omega arith; by = h })
      ]

  -- In a stream that keeps its model, n + 1 events from tick s on take at least their least distance.
  pub since : (M : Stream) (T s n b : ℕ) → Keeps T M counts → At counts (counts s + n) b → b < T
      → s + d M (suc n) ≤ b
  since M T s n b keeps last inside =
      let (a, before, first) = falls (counts s) (suc b) (omega arith) in
      let after : s ≤ a = no_later s a first.by in
      omega (arith, (keeps (counts s) n a b first last inside).0)

  -- A stream that keeps its model has in a span of B ticks at most its most events in B.
  pub few_events : (M : Stream) (T s B : ℕ) → 1 ≤ M.P → Keeps T M counts → s + B ≤ T
      → counts (s + B) ≤ counts s + most_events M B
  few_events M T s B some keeps h =
      elim (dec_le (counts (s + B)) (counts s)) [
        | yes l ↦ omega arith
        | no l ↦ omega (arith, several (counts (s + B) - suc (counts s)) (omega arith))
      ]
    where
      -- there are n + 1 events in the span
      several : (n : ℕ) → counts s + suc n ≡ counts (s + B) → suc n ≤ most_events M B
      several n e =
          let (b, inside, last) = falls (counts s + n) (s + B) (omega arith) in
          let apart = since M T s n b keeps last (omega arith) in
          (counting M (suc n) B some (omega arith) (omega arith)).1 (omega arith)
