-- Figures that are reached: runs in which every task has a job that takes its R+, and every path an event that takes its
-- worst, as they stand in the bytes of the report. No smaller figures would be kept.
pub mod C
pub mod Rich
use Rattle.std.specs.Prelude.{ℕ, suc, ◌+◌, ◌≤◌, ◌<◌, ◌≡◌, Bool, true, ◌&&◌, leb, ltb}
use Rattle.std.proofs.Common.{subst}
use borrow.Author.Tests.{leb-true, ltb-true}
use Rattle.paper.specs.Words.{sum, any}
use Rattle.paper.specs.Bytes.{Bytes}
use Rattle.paper.specs.Tables.{Plan, plan_of}
use Rattle.paper.specs.Windows.{rival}
use Rattle.paper.specs.Running.{Run, activated_by, waits, runs, ends, step, state_at, activations, finishes, At, Response, RunOf}
use Rattle.paper.specs.Places.{R+_in, worst_in}
use Rattle.paper.specs.Kept.{first, last, Claims, Kept}
use Rattle.paper.specs.Answer.{Answer, Due}
use Rattle.theory.specs.Numbers.Tests.{both}
use Rattle.theory.specs.Outcomes.Unique.{due_one}
use Rattle.theory.specs.Twin.Answer.{Outcome, space, IsDue}

-- Some job of task k takes so many ticks, and finishes inside the run.
pub record Takes (p : Plan) (r : Run) (k ticks : ℕ) : Type 0 where
  pub job : ℕ
  pub response : Response p r k job ticks
  pub inside : response.activation + ticks ≤ r.ticks

-- Some event takes so many ticks from its activation on the first task of path q to its finish on the last, inside the run.
pub record PathTakes (p : Plan) (r : Run) (q ticks : ℕ) : Type 0 where
  pub event : ℕ
  pub activation : ℕ
  pub activated_then : At (activations p r (first (p.path q))) event activation
  pub finished_then : At (finishes p r (last (p.path q))) event (activation + ticks)
  pub inside : activation + ticks ≤ r.ticks

-- A run of the plan in which every R+ and every path's worst that stand in the bytes `out` are reached.
pub record Reaches (p : Plan) (r : Run) (out : Bytes) : Type 0 where
  pub run : RunOf p r
  pub tasks : (k : ℕ) → k < p.tasks → Takes p r k (R+_in out k)
  pub paths : (q : ℕ) → q < p.paths → PathTakes p r q (worst_in out p.tasks q)

-- No smaller figures are kept in such a run.
pub no_smaller : {p : Plan} {r : Run} {out : Bytes} {c : Claims} → Reaches p r out → Kept p c r
    → ((k : ℕ) → k < p.tasks → R+_in out k ≤ c.R+ k) × ((q : ℕ) → q < p.paths → worst_in out p.tasks q ≤ c.worst q)
no_smaller reaches kept = (
  λ k h. let t = reaches.tasks k h in (kept.responses k t.job _ h t.response).1 t.inside,
  λ q h.
      let t = reaches.paths q h in
      (kept.path_responses q t.event t.activation _ h t.activated_then t.finished_then).1 t.inside,
)

-- What is reached in the report of an outcome that is due is reached in whatever is due.
pub reached_in : {s : Bytes} {r : Run} {room : ℕ} {a : Answer} {out : Bytes} (o : Outcome) → IsDue s room o
    → Reaches (plan_of s) r (space room o.report) → Due s room a out → Reaches (plan_of s) r out
reached_in {s} {r} o due reaches other = subst (Reaches (plan_of s) r) (due_one due other).1 reaches

-- Whether event m of a stream, given by its counts, falls on tick t.
abbrev falls : (ℕ → ℕ) → (m t : ℕ) → Bool
falls counts m t = leb (counts t) m && ltb m (counts (suc t))

-- An event that passes the test falls on that tick.
falls_says : (counts : ℕ → ℕ) (m t : ℕ) → falls counts m t ≡ true → At counts m t
falls_says counts m t e =
    let (after, by) = both (leb (counts t) m) (ltb m (counts (suc t))) e in
    record { after = leb-true (counts t) m after; by = ltb-true m (counts (suc t)) by }

-- Whether job m of task j is activated at tick a, and job m of task k finishes so many ticks later, inside the run. To unfold
-- this is to unfold all of the running rule. (Plan and run are given by name at each use: while they are not yet determined, the
-- rule takes many times as long to compute with every tick.)
unfoldable pub takes : Plan → Run → (j k m a ticks : ℕ) → Bool
unfolding activations finishes state_at step runs waits ends activated_by rival any sum
takes p r j k m a ticks =
    falls (activations p r j) m a && falls (finishes p r k) m (a + ticks) && leb (a + ticks) r.ticks

module _ (p : Plan) (r : Run) where
  -- A job that passes the test takes so many ticks,
  pub job : (k m a ticks : ℕ) → takes p r k k m a ticks ≡ true → Takes p r k ticks
  unfolding takes
  job k m a ticks e =
      let (then, inside) = both _ _ e in
      let (activated, finished) = both _ _ then in
      record {
        job = m;
        response =
            record { activation = a; activated_then = falls_says _ m a activated; finished_then = falls_says _ m (a + ticks) finished };
        inside = leb-true (a + ticks) r.ticks inside;
      }

  -- and so does an event on a path.
  pub event : (q m a ticks : ℕ) → takes p r (first (p.path q)) (last (p.path q)) m a ticks ≡ true → PathTakes p r q ticks
  unfolding takes
  event q m a ticks e =
      let (then, inside) = both _ _ e in
      let (activated, finished) = both _ _ then in
      record {
        event = m;
        activation = a;
        activated_then = falls_says _ m a activated;
        finished_then = falls_says _ m (a + ticks) finished;
        inside = leb-true (a + ticks) r.ticks inside;
      }
