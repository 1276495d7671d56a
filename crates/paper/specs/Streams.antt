-- "A stream has period P and jitter J": least and most distance, most events, added delay.
use Rattle.std.specs.Prelude.{ℕ, zero, suc, ◌+◌, ◌-◌, ◌*◌, ◌/◌, max}

-- An event model.
pub record Stream : Type 0 where
  pub P : ℕ
  pub J : ℕ

-- "Least distance of n events, n at least 1: d(n) = max(0, (n-1)P - J)."
unfoldable pub d : Stream → ℕ → ℕ
d M n = max 0 ((n - 1) * M.P - M.J)

-- "Most: (n-1)P + J for n at least 2, and 0 for n = 1."
unfoldable pub D : Stream → ℕ → ℕ
D M zero = 0
D M (suc zero) = 0
D M (suc (suc n)) = suc n * M.P + M.J

-- A quotient rounded up.
unfoldable pub rounded_up : ℕ → ℕ → ℕ
rounded_up a b = (a + (b - 1)) / b

-- "Most events in a half-open span of t ticks: 0 for t = 0, otherwise (t + J)/P rounded up."
unfoldable pub most_events : Stream → ℕ → ℕ
most_events M zero = 0
most_events M (suc t) = rounded_up (suc t + M.J) M.P

-- "Adding delay to an event model gives a new model and leaves the old one in use."
unfoldable pub delayed : Stream → ℕ → Stream
delayed M delay = record { P = M.P; J = M.J + delay }
