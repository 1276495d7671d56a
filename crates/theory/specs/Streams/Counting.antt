-- Counting a stream's events: the one law that ties most events to least distance, and what grows with what. Whoever cites
-- these laws doesn't depend on the formulas.
use Rattle.std.specs.Prelude.{ℕ, zero, suc, ◌+◌, ◌-◌, ◌*◌, ◌/◌, ◌≤◌, ◌<◌, ◌≡◌, refl, ◌↔◌}
use Rattle.std.proofs.Common.{le_refl, mul-le-mul_right, zero-lt-suc, div-mul-le_self, le-div_iff_mul-le, div-lt_iff_lt-mul, mul-le-mul_left, arith}
use Rattle.std.proofs.Math.Nat.{zero-max, suc-sub-suc, sub-zero, div-zero}
use Rattle.paper.specs.Tables.{Plan}
use Rattle.paper.specs.Streams.{Stream, d, D, rounded_up, most_events, delayed}
use Rattle.paper.specs.Windows.{Inputs, output}

infix 4 ◌⊑◌
-- A stream is milder than another, or as mild: it has the same period, and its jitter is no larger.
pub record ◌⊑◌ (M M' : Stream) : Type 0 where
  pub period : M.P ≡ M'.P
  pub jitter : M.J ≤ M'.J

-- Task by task, the input streams S are milder than S', or as mild.
abbrev pub Milder : Plan → Inputs → Inputs → Type 0
Milder p S S' = (k : ℕ) → k < p.tasks → S k ⊑ S' k

-- A stream is as mild as itself.
pub milder_refl : (M : Stream) → M ⊑ M
milder_refl M = record { period = refl; jitter = le_refl _ }

-- Adding delay, no more than to the other, keeps a stream milder.
pub milder_delayed : (M M' : Stream) (delay delay' : ℕ) → M ⊑ M' → delay ≤ delay' → delayed M delay ⊑ delayed M' delay'
unfolding delayed
milder_delayed M M' delay delay' m h = record { period = m.period; jitter = omega arith }

-- A milder input stream and a bound no larger give a milder output stream.
pub milder_output : (C- : ℕ) (M M' : Stream) (R R' : ℕ) → M ⊑ M' → R ≤ R' → output C- M R ⊑ output C- M' R'
unfolding output
milder_output C- M M' R R' m h = milder_delayed M M' _ _ m (omega arith)

-- The least distance of n + 1 events: n periods less the jitter.
d_suc : (M : Stream) (n : ℕ) → d M (suc n) ≡ n * M.P - M.J
unfolding d
d_suc M n = rw (zero-max, suc-sub-suc, sub-zero)

-- n events fit into a span exactly when their least distance is shorter than the span.
pub counting : (M : Stream) (n t : ℕ) → 1 ≤ M.P → 1 ≤ n → 1 ≤ t → (n ≤ most_events M t) ↔ (d M n < t)
unfolding most_events rounded_up
counting M zero t p n' h = absurd (omega arith)
counting M (suc n) zero p n' h = absurd (omega arith)
counting M (suc n) (suc t) p n' h =
    (λ l. omega (arith, d_suc M n, (le-div_iff_mul-le p).0 l), λ l. (le-div_iff_mul-le p).1 (omega (arith, d_suc M n)))

-- A single event has no distance.
pub d_one : (M : Stream) → d M 1 ≡ 0
d_one M = omega (arith, d_suc M 0)

-- More events lie no closer.
pub d_grows : (M : Stream) (n n' : ℕ) → n ≤ n' → d M n ≤ d M n'
unfolding d
d_grows M n n' h =
    let l : n - 1 ≤ n' - 1 = omega arith in
    omega (arith, mul-le-mul_right M.P l)

-- The events of a milder stream lie no closer.
pub d_falls : (M M' : Stream) (n : ℕ) → M ⊑ M' → d M' n ≤ d M n
unfolding d
d_falls M M' n m = rw m.period (omega arith)

-- More events, and events of a stream less mild, lie as far apart or further.
pub D_grows : (M M' : Stream) (n n' : ℕ) → M ⊑ M' → n ≤ n' → D M n ≤ D M' n'
unfolding D
D_grows M M' zero n' m h = omega arith
D_grows M M' (suc zero) n' m h = omega arith
D_grows M M' (suc (suc n)) zero m h = absurd (omega arith)
D_grows M M' (suc (suc n)) (suc zero) m h = absurd (omega arith)
D_grows M M' (suc (suc n)) (suc (suc n')) m h =
    let l : suc n ≤ suc n' = omega arith in
    rw m.period (omega (arith, mul-le-mul_right M'.P l))

-- A quotient rounded up grows with what is divided.
rounded_up_grows : (a b c : ℕ) → a ≤ b → rounded_up a c ≤ rounded_up b c
unfolding rounded_up
rounded_up_grows a b zero h = omega (arith, div-zero (a + (0 - 1)))
rounded_up_grows a b (suc c) h =
    (le-div_iff_mul-le (zero-lt-suc c)).1 (omega (arith, div-mul-le_self (a + (suc c - 1)) (suc c)))

-- A longer span, and a stream less mild, hold as many events or more.
pub most_events_grows : (M M' : Stream) (t t' : ℕ) → M ⊑ M' → t ≤ t' → most_events M t ≤ most_events M' t'
unfolding most_events
most_events_grows M M' zero t' m h = omega arith
most_events_grows M M' (suc t) zero m h = absurd (omega arith)
most_events_grows M M' (suc t) (suc t') m h = rw m.period (rounded_up_grows _ _ _ (omega arith))

-- A stream whose period is not 0 has at most one event for each tick of the span and of the jitter.
pub few : (M : Stream) (t : ℕ) → 1 ≤ M.P → most_events M t ≤ t + M.J
unfolding most_events rounded_up
few M zero some = omega arith
few M (suc t) some =
    let less : (suc t + M.J + (M.P - 1)) / M.P < suc (suc t + M.J) =
    (div-lt_iff_lt-mul {y = suc (suc t + M.J)} some).1 (omega (arith, mul-le-mul_left (suc t + M.J) some)) in
    omega arith

-- What it is to keep the model in terms of evenly spaced moments: event m at a and event m + n at b, in order, each no later
-- than a latest moment and m, or m + n, periods, and at most the jitter sooner, lie as far apart as the model says.
pub apart_on_grid : (M : Stream) (latest m n a b : ℕ) → a ≤ b → (n ≡ 0 → b ≤ a)
    → (a ≤ latest + m * M.P) × (latest + m * M.P ≤ a + M.J)
    → (b ≤ latest + (m + n) * M.P) × (latest + (m + n) * M.P ≤ b + M.J)
    → (a + d M (suc n) ≤ b) × (b ≤ a + D M (suc n))
unfolding D
apart_on_grid M latest m zero a b order same f g = (omega (arith, d_suc M 0), omega (arith, same refl))
apart_on_grid M latest m (suc n) a b order same f g = (omega (arith, d_suc M (suc n)), omega arith)

-- The other way round: events n apart that lie as far apart as the model says lie n periods apart, give or take the jitter.
pub apart_near : (M : Stream) (n a b : ℕ) → (a + d M (suc n) ≤ b) × (b ≤ a + D M (suc n))
    → (a + n * M.P ≤ b + M.J) × (b ≤ a + n * M.P + M.J)
unfolding D
apart_near M zero a b h = omega (arith, d_suc M 0)
apart_near M (suc n) a b h = omega (arith, d_suc M (suc n))

-- The least distance of m + 1 events lies on the grid that begins at tick 0: at most m periods, and at most the jitter less.
pub d_on_grid : (M : Stream) (m : ℕ) → (d M (suc m) ≤ 0 + m * M.P) × (0 + m * M.P ≤ d M (suc m) + M.J)
d_on_grid M m = omega (arith, d_suc M m)
