-- Demand 3: no run, of any length, breaks a figure of a set of bounds that covers the plan.
use Rattle.std.specs.Prelude.{ℕ, zero, suc, ◌≤◌, ◌<◌, ◌≡◌}
use Rattle.std.proofs.Math.Path.{refl, ap}
use Rattle.std.proofs.Common.{◌∙◌, arith}
use Rattle.paper.specs.Tables.{Source, outside, fed, Plan}
use Rattle.paper.specs.Windows.{Inputs, output}
use Rattle.paper.specs.Sets.{Bounds, stream_of}
use Rattle.paper.specs.Report.{best, worst}
use Rattle.paper.specs.Running.{Run, activations, finishes, Keeps, RunOf}
use Rattle.paper.specs.Kept.{first, last, Claims, Kept}
use Rattle.theory.specs.Plans.Sound.{Sound}
use Rattle.theory.specs.Streams.Follows.{Follows, delay_between, delayed_keeps}
use Rattle.theory.specs.Runs.Served.{activations_outside, activations_fed, activations_counted, finishes_counted}
use Rattle.theory.specs.Runs.Covers.{Covers}
use Rattle.theory.specs.Runs.InTime.{InputsKeep, task_follows}
use Rattle.theory.specs.Runs.Paths.{path_follows}

-- What a set of bounds R over input streams S claims.
abbrev pub claims_of : Plan → Inputs → Bounds → Claims
claims_of p S R =
    record {
      R- = λ k. (p.task k).C-;
      R+ = R;
      input = S;
      output = λ k. output (p.task k).C- (S k) (R k);
      best = best p;
      worst = worst p R;
    }

module _ (p : Plan) (S : Inputs) (R : Bounds) (sound : Sound p) (covers : Covers p S R) (r : Run) (run : RunOf p r) where
  -- Where the input streams keep their models below tick T, the output streams keep theirs a tick further on.
  outputs_keep : (T : ℕ) → InputsKeep p S r T → (k : ℕ) → k < p.tasks
      → Keeps (suc T) (output (p.task k).C- (S k) (R k)) (finishes p r k)
  unfolding output
  outputs_keep T keep k l =
      delayed_keeps (finishes_counted p r k) (task_follows p S R sound covers r run T keep k l) (S k) (sound.some_cost k l)
      (activations_counted p r run k l) (keep k l)

  -- Input streams that keep their models below a tick of the run keep them a tick further on.
  inputs_keep_on : (T : ℕ) → T < r.ticks → InputsKeep p S r T → InputsKeep p S r (suc T)
  unfolding stream_of
  inputs_keep_on T inside keep k l = by (p.task k).source refl
    where
      -- whatever the source
      by : (source : Source) → (p.task k).source ≡ source → Keeps (suc T) (S k) (activations p r k)
      by (outside M) e =
          let input : S k ≡ M = (covers k l).input ∙ ap (stream_of p R S) e in
          rw (activations_outside p r k M e (run.counted k M l e), input)
          (λ m n a b now next before. run.keeps k M l e m n a b now next (omega arith))
      by (fed j) e =
          let input : S k ≡ output (p.task j).C- (S j) (R j) = (covers k l).input ∙ ap (stream_of p R S) e in
          rw (activations_fed p r k j e, input) (outputs_keep T keep j (sound.feeders k j l e))

  -- All input streams keep their models up to any tick of the run.
  inputs_keep : (T : ℕ) → T ≤ r.ticks → InputsKeep p S r T
  inputs_keep zero inside = λ k l m n a b now next before. absurd (omega arith)
  inputs_keep (suc T) inside = inputs_keep_on T inside (inputs_keep T (omega arith))

  -- Demand 3: every figure is kept.
  pub demand_3 : Kept p (claims_of p S R) r
  demand_3 =
      record {
        in_time = λ k m a l. (task k l).in_time m a;
        responses =
            λ k m ticks l response.
            delay_between (finishes_counted p r k) (task k l) (activations_counted p r run k l) m response.activation ticks
            response.activated_then
            response.finished_then;
        inputs_keep = keep;
        outputs_keep = λ k l m n a b now next inside. outputs_keep r.ticks keep k l m n a b now next (omega arith);
        path_in_time = λ q m a l. (path q l).in_time m a;
        path_responses =
            λ q m a ticks l.
            delay_between (finishes_counted p r (last (p.path q))) (path q l)
            (activations_counted p r run (first (p.path q)) (sound.steps q 0 l (sound.some_step q l)))
            m
            a
            ticks;
      }
    where
      -- the input streams keep their models in the whole run
      keep : InputsKeep p S r r.ticks
      keep = inputs_keep r.ticks (omega arith)

      -- each task's finishes follow its activations
      task : (k : ℕ) → k < p.tasks → Follows r.ticks (p.task k).C- (R k) (activations p r k) (finishes p r k)
      task = task_follows p S R sound covers r run r.ticks keep

      -- the finishes at the end of each path follow the activations at its start
      path : (q : ℕ) → q < p.paths
          → Follows r.ticks (best p q) (worst p R q) (activations p r (first (p.path q))) (finishes p r (last (p.path q)))
      path q l =
          path_follows p R r r.ticks task (p.path q)
          (record { some = sound.some_step q l; steps = λ i. sound.steps q i l; links = λ i. sound.links q i l })
