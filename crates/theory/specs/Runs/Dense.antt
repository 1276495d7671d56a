-- Runs exist, and reach the edges of what a plan allows: every outside stream may be as dense as its model says, from the first
-- tick on, and every job may cost anything from C- to C+.
use Rattle.std.specs.Prelude.{ℕ, zero, suc, ◌≤◌, ◌<◌, ◌≡◌}
use Rattle.std.proofs.Common.{arith}
use Rattle.paper.specs.Tables.{Source, outside, fed, Plan}
use Rattle.paper.specs.Streams.{Stream, d, most_events}
use Rattle.paper.specs.Running.{Run, At, Keeps, RunOf}
use Rattle.theory.specs.Streams.Counting.{counting, d_on_grid}
use Rattle.theory.specs.Streams.Counts.{most_counted}
use Rattle.theory.specs.Streams.Grid.{trails_keep}
use Rattle.theory.specs.Plans.Sound.{Sound}

-- The events of a source below each tick, as many as its model allows. A task that is fed has none of its own.
abbrev pub densest : Source → ℕ → ℕ
densest (outside M) = most_events M
densest (fed j) = λ t. 0

-- The run of so many ticks with such events and given costs.
abbrev pub dense : Plan → ℕ → (ℕ → ℕ → ℕ) → Run
dense p ticks cost = record { ticks = ticks; events = λ k. densest (p.task k).source; cost = cost }

-- Event m of the densest stream falls on the least distance of m + 1 events.
dense_at : (M : Stream) (m t : ℕ) → 1 ≤ M.P → At (most_events M) m t → t ≡ d M (suc m)
dense_at M m zero some at = omega (arith, (counting M (suc m) 1 some (omega arith) (omega arith)).0 at.by)
dense_at M m (suc t) some at =
    let reached = (counting M (suc m) (suc (suc t)) some (omega arith) (omega arith)).0 at.by in
    let early : d M (suc m) < suc t → ⊥ =
    λ l. let more = (counting M (suc m) (suc t) some (omega arith) (omega arith)).1 l in omega (arith, more, at.after) in
    omega (arith, reached, early)

-- The densest stream keeps its model.
dense_keeps : (ticks : ℕ) (M : Stream) → 1 ≤ M.P → Keeps ticks M (most_events M)
dense_keeps ticks M some =
    trails_keep ticks M (most_counted M) 0 (λ m a at inside. rw (dense_at M m a some at) (d_on_grid M m))

-- Every such run is a run of the plan.
pub dense_run : {p : Plan} → Sound p → (ticks : ℕ) (cost : ℕ → ℕ → ℕ)
    → ((k m : ℕ) → k < p.tasks → ((p.task k).C- ≤ cost k m) × (cost k m ≤ (p.task k).C+)) → RunOf p (dense p ticks cost)
dense_run sound ticks cost between =
    record {
      counted = λ k M h e. rw e (most_counted M);
      keeps = λ k M h e. rw e (dense_keeps ticks M (sound.some_period k M h e));
      least = λ k m h. (between k m h).0;
      most = λ k m h. (between k m h).1;
    }
