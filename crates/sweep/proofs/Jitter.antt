-- Input streams along a chain: from feeder to task, and how large their jitters can be.
use Rattle.std.proofs.Common.{ℕ, zero, suc, ◌+◌, ◌-◌, ◌*◌, ◌≤◌, ◌<◌, ◌^◌, ◌≡◌, refl, ap, arith}
use Rattle.paper.specs.Limits.{most_ticks}
use Rattle.paper.specs.Tables.{Source, outside, fed, Plan}
use Rattle.paper.specs.Refusals.{back, FromOutside}
use Rattle.paper.specs.Streams.{Stream, delayed}
use Rattle.paper.specs.Windows.{output}
use Rattle.paper.specs.Sets.{Bounds, stream_of, inputs}
use Rattle.theory.specs.Plans.Sound.{Sound, Ranged}
use Rattle.theory.specs.Plans.Chains.{back_fed}
use Rattle.theory.specs.Plans.Inputs.{inputs_law, period_law, period_some}

module _ {p : Plan} (sound : Sound p) (R : Bounds) where
  -- The input stream of a fed task is its feeder's, delayed by R+ - R- of its feeder.
  pub stream_fed : (k j : ℕ) → k < p.tasks → (p.task k).source ≡ fed j
      → inputs p R k ≡ delayed (inputs p R j) (R j - (p.task j).C-)
  unfolding stream_of output
  stream_fed k j h e = rw (inputs_law sound R k h, e) refl

  -- The input stream of a task fed from outside is that of its events.
  pub stream_outside : (k : ℕ) (M : Stream) → k < p.tasks → (p.task k).source ≡ outside M → inputs p R k ≡ M
  unfolding stream_of
  stream_outside k M h e = rw (inputs_law sound R k h, e) refl

  -- So are their jitters.
  jitter_fed : (k j : ℕ) → k < p.tasks → (p.task k).source ≡ fed j → (inputs p R k).J ≡ (inputs p R j).J + (R j - (p.task j).C-)
  unfolding delayed
  jitter_fed k j h e = ap (λ (M : Stream). M.J) (stream_fed k j h e)

  -- No input stream has period 0.
  pub some_period : (k : ℕ) → k < p.tasks → 1 ≤ (inputs p R k).P
  some_period k h = rw (period_law sound R k h) (period_some sound k h)

module _ {p : Plan} (sound : Sound p) (ranged : Ranged p) (R : Bounds) (capped : (k : ℕ) → k < p.tasks → R k ≤ most_ticks) where
  -- From a feeder's input jitter to a fed task's it is at most the limit.
  jitter_step : (n k : ℕ) → k < p.tasks → ((j : ℕ) → (p.task k).source ≡ fed j → (inputs p R j).J ≤ n)
      → (inputs p R k).J ≤ n + most_ticks
  jitter_step n k h before = by (p.task k).source refl
    where
      -- From each kind of source.
      by : (s : Source) → (p.task k).source ≡ s → (inputs p R k).J ≤ n + most_ticks
      by (outside M) e = omega (arith, ap (λ (S : Stream). S.J) (stream_outside sound R k M h e), ranged.jitter k M h e)
      by (fed j) e = omega (arith, jitter_fed sound R k j h e, before j e, capped j (sound.feeders k j h e))

  -- Along a chain that starts m steps back it is at most that for each step.
  jitter_along : (m k : ℕ) → k < p.tasks → FromOutside (p.task (back p m k)).source → (inputs p R k).J ≤ suc m * most_ticks
  unfolding back
  jitter_along zero k h o = jitter_step 0 k h (λ j e. absurd (rw e at o))
  jitter_along (suc m) k h o =
      omega (
        arith,
        jitter_step (suc m * most_ticks) k h
            (λ j e. jitter_along m j (sound.feeders k j h e) (rw (back_fed p m k j e) at o)),
      )

  -- An input jitter is small.
  pub jitter_small : (k : ℕ) → k < p.tasks → (inputs p R k).J < 2 ^ 37
  jitter_small k h =
      let (m, l, o) = sound.chains k h in
      omega (arith, jitter_along m k h o, ranged.tasks)
