-- One stream follows another, event by event, with a least and a most delay: chains of such streams, and their models.
use Rattle.std.specs.Prelude.{ℕ, suc, ◌+◌, ◌-◌, ◌≤◌, ◌<◌}
use Rattle.std.proofs.Math.Decide.{dec_le}
use Rattle.std.proofs.Common.{arith}
use Rattle.paper.specs.Streams.{Stream, delayed}
use Rattle.paper.specs.Running.{At, Counts, Keeps}
use Rattle.theory.specs.Streams.Counts.{counts_rise, no_later, one_tick, falls}
use Rattle.theory.specs.Streams.Grid.{keeps_trail, trails_keep}

-- A later stream follows an earlier one, event by event, with a least and a most delay, as far as tick T.
pub record Follows (T least most : ℕ) (earlier later : ℕ → ℕ) : Type 0 where
  -- Event m of the later stream, there at tick f, comes at least the least delay after event m of the earlier one.
  pub began : (m f : ℕ) → m < later (suc f) → (a : ℕ) × At earlier m a × (a + least ≤ f)
  -- Event m of the later stream is there once the most delay has passed since event m of the earlier one.
  pub in_time : (m a : ℕ) → At earlier m a → a + most ≤ T → m < later (suc (a + most))

-- A stream that follows one that follows another follows that other, and the delays add up.
pub follows_on : {T least most least' most' : ℕ} {first second third : ℕ → ℕ} → Counts second → Counts third
    → Follows T least most first second → Follows T least' most' second third
    → Follows T (least + least') (most + most') first third
follows_on {T} {least} {most} {least'} {most'} {first} {second} {third} counted counts f g =
    record { began = began; in_time = in_time }
  where
    -- back from the third stream to the first
    began : (m c : ℕ) → m < third (suc c) → (a : ℕ) × At first m a × (a + (least + least') ≤ c)
    began m c h =
        let (b, then, passed) = g.began m c h in
        let (a, now, before) = f.began m b then.by in
        (a, now, omega arith)

    -- on from the first stream to the third
    in_time : (m a : ℕ) → At first m a → a + (most + most') ≤ T → m < third (suc (a + (most + most')))
    in_time m a now inside =
        let (b, before, then) = falls counted m (suc (a + most)) (f.in_time m a now (omega arith)) in
        let rise = counts_rise counts (suc (b + most')) (suc (a + (most + most'))) (omega arith) in
        omega (arith, g.in_time m b then (omega arith))

module _ {T least most : ℕ} {earlier later : ℕ → ℕ} (counted : Counts later) (follows : Follows T least most earlier later) where
  -- Up to tick T, an event of the later stream falls at most the most delay after that of the earlier one.
  not_late : (m a f : ℕ) → At earlier m a → At later m f → f ≤ T → f ≤ a + most
  not_late m a f now then inside =
      elim (dec_le f (a + most)) [
        | yes l ↦ l
        | no l ↦
            let due = follows.in_time m a now (omega arith) in
            no_later counted f (a + most) (omega arith)
      ]

  -- An event is delayed by t: t is at least the least delay, and up to tick T at most the most delay.
  pub delay_between : Counts earlier → (m a t : ℕ) → At earlier m a → At later m (a + t)
      → (least ≤ t) × (a + t ≤ T → t ≤ most)
  delay_between counts m a t now then =
      let (b, began, passed) = follows.began m (a + t) then.by in
      let same = one_tick counts m a b now began in
      (omega arith, λ inside. omega (arith, not_late m a (a + t) now then inside))

  -- If the earlier stream keeps its model as far as ticks below T, the later one keeps, a tick further on, the model with the
  -- difference of the delays added: it trails the moments that are the most delay later.
  pub delayed_keeps : (M : Stream) → 1 ≤ least → Counts earlier → Keeps T M earlier
      → Keeps (suc T) (delayed M (most - least)) later
  unfolding delayed
  delayed_keeps M some counts keeps =
      let (latest, trails) = keeps_trail T M counts keeps in
      trails_keep (suc T) (delayed M (most - least)) counted (latest + most) (λ m f then inside.
      let (a, now, passed) = follows.began m f then.by in
      omega (arith, trails m a now (omega arith), not_late m a f now then (omega arith)))
