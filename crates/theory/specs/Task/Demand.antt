-- What one task's jobs and the interference that it meets demand of its controller, and the windows that this gives.
use Rattle.std.specs.Prelude.{ℕ, ◌+◌, ◌-◌, ◌*◌, ◌≤◌, ◌<◌, ◌≡◌}
use Rattle.std.proofs.Common.{mul-pos, arith}
use Rattle.paper.specs.Streams.{d}
use Rattle.paper.specs.Windows.{Setting, Window}
use Rattle.theory.specs.Numbers.Ranges.{Every}
use Rattle.theory.specs.Numbers.FixedPoints.{Rises, Enough, fixed_enough}
use Rattle.theory.specs.Numbers.FixedPoints.{Reached, reached_start}
use Rattle.theory.specs.Streams.Counting.{◌⊑◌}

infix 4 ◌≼◌
-- What q jobs of a task and the interference demand in a span of t ticks. The window for q jobs is the least fixed span of
-- this.
abbrev pub demand : Setting → ℕ → ℕ → ℕ
demand k q t = q * k.C+ + k.interference t

-- A task's jobs cost something, and in a longer span it meets as much interference or more.
pub record Proper (k : Setting) : Type 0 where
  pub cost : 1 ≤ k.C+
  pub longer : (s t : ℕ) → s ≤ t → k.interference s ≤ k.interference t

-- A setting is milder than another: the same costs, a milder input stream, and no more interference.
pub record ◌≼◌ (k k' : Setting) : Type 0 where
  pub least : k.C- ≡ k'.C-
  pub most : k.C+ ≡ k'.C+
  pub input : k.input ⊑ k'.input
  pub interference : (t : ℕ) → k.interference t ≤ k'.interference t

-- What a bound R with n jobs looked at says, in inequalities.
pub record Inequalities (k : Setting) (R n : ℕ) : Type 0 where
  -- Some job is looked at.
  pub some : 1 ≤ n
  -- There is a window B(q) for each q up to n,
  pub B : ℕ → ℕ
  -- not empty,
  pub above : Every n (λ q. 0 < B q)
  -- which holds q jobs of the task and the interference in it,
  pub holds : Every n (λ q. q * k.C+ + k.interference (B q) ≤ B q)
  -- and is over R ticks after the least distance of q events,
  pub within : Every n (λ q. B q ≤ R + d k.input q)
  -- the last one no later than the least distance of one event more.
  pub ends : B n ≤ d k.input (n + 1)

module _ {k : Setting} (proper : Proper k) where
  -- The demand of one job or more rises.
  pub demand_rises : (q : ℕ) → 1 ≤ q → Rises (demand k q)
  demand_rises q a =
      record { mono = λ s t h. omega (arith, proper.longer s t h); some = λ t h. omega (arith, mul-pos a proper.cost) }

  -- A search for a window may start at the cost of its jobs,
  pub window_start : (q : ℕ) → 1 ≤ q → Reached (demand k q) (q * k.C+)
  window_start q a = reached_start _ (mul-pos a proper.cost) (λ s. omega arith)

  -- or where the window before it ends, with one job's cost added.
  pub window_next : (q B : ℕ) → 1 ≤ q → Window k q B → Reached (demand k (q + 1)) (B + k.C+)
  window_next q B a w =
      let C = k.C+ in
      record {
        above = omega arith;
        demanded = omega (arith, proper.longer B (B + C) (omega arith));
        below = λ s e.
            let less : Enough (demand k q) (s - C) =
            omega (arith, mul-pos a proper.cost, proper.longer (s - C) s (omega arith)) in
            omega (arith, (fixed_enough (demand_rises q a) w).least (s - C) less);
      }
