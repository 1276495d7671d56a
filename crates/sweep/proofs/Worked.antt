-- What one sweep works out, task by task.
use Rattle.std.proofs.Common.{ℕ, ◌+◌, ◌<◌, ◌≡◌, refl, subst, arith, List, [], ◌∷◌, ◌++◌, get_or}
use Rattle.std.proofs.Common.{Option, Some, None, Result, Ok, Err}
use Rattle.std.proofs.Math.Decide.{dec_lt}
use Rattle.std.proofs.lemmas.List.{length_push, get_or_push, get_or_append_left}
use Rattle.std.specs.Option.{ok_or}
use Rattle.paper.specs.Words.{IsLeast}
use Rattle.paper.specs.Tables.{Plan}
use Rattle.paper.specs.Windows.{Inputs, interference, Setting, setting}
use Rattle.paper.specs.Sweeps.{Leaves}
use Rattle.stream.specs.Model.{model_of}
use Rattle.stream.specs.declared.model.EventModel.{EventModel}
use Rattle.bound.specs.declared.setting.Rival.{Rival}
use Rattle.bound.specs.Setting.{interference_of}
use Rattle.plan.specs.declared.tasks.Task.{Task}
use Rattle.sweep.specs.declared.once.Figure.{Figure}
use Rattle.sweep.specs.declared.once.Left.{Left}
use Rattle.sweep.specs.Rows.{no_figure}
use Rattle.sweep.specs.Planned.{Streaming}
use Rattle.sweep.specs.Works.{Figured, Finds, Upto}
use Rattle.sweep.proofs.Rows.{row_is, stream_is}

-- What the equations read of a row, an input stream and rivals.
abbrev setting_by : Task → EventModel → List Rival → Setting
setting_by t M rivals =
    record { C- = t.least.0; C+ = t.most.0; input = model_of M; interference = interference_of rivals }

-- Of a task's own row and input stream, and its rivals, it is what they read of the plan.
pub same_setting : {p : Plan} {S : Inputs} {tasks : List Task} {inputs : List EventModel} (rivals : List Rival) (k : ℕ)
    (d : Task) (e : EventModel) → Streaming p S tasks inputs → k < p.tasks → interference_of rivals ≡ interference p S k
    → setting_by (get_or tasks k d) (get_or inputs k e) rivals ≡ setting p S k
same_setting rivals k d e so h interfere =
    let row = row_is so.planned k d h in
    λ i.
    record {
      C- = (row i).least.0;
      C+ = (row i).most.0;
      input = model_of (stream_is so k e h i);
      interference = interfere i;
    }

-- Of no tasks there are no figures.
pub upto_none : {p : Plan} {S : Inputs} → Upto p S 0 []
upto_none = record { count = refl; each = λ k l. absurd (omega arith) }

-- What is handed on of task k in sweep number n: its figures, or that it leaves the limits.
abbrev Handed : Plan → Inputs → ℕ → ℕ → Result Figure Left → Type 0
Handed p S k n (Ok f) = Figured p S k f
Handed p S k n (Err left) = Leaves p S k × (left ≡ record { task = record { 0 = k }; sweep = n })

-- It is what was found.
pub handed : (p : Plan) (S : Inputs) (k n : ℕ) (x : Option Figure) (r : Result Figure Left) → Finds p S k x
    → r ≡ ok_or x (record { task = record { 0 = k }; sweep = n }) → Handed p S k n r
handed p S k n (Some f) r worked e = rw e worked
handed p S k n None r leaves e = rw e (leaves, refl)

module _ {p : Plan} {S : Inputs} {k : ℕ} {figures : List Figure} (far : Upto p S k figures) where
  -- The next task's figures go last.
  pub upto_more : {f : Figure} → Figured p S k f → Upto p S (k + 1) (figures ++ f ∷ [])
  upto_more {f} last =
      record {
        count = rw (length_push figures f) (omega (arith, far.count));
        each = λ j l.
            elim (dec_lt j k) [
              | yes b ↦ rw (get_or_append_left figures (f ∷ []) no_figure j (omega (arith, far.count))) (far.each j b)
              | no b ↦
                  let e : k ≡ j = omega arith in
                  rw (get_or_push figures f no_figure j (omega (arith, far.count)))
                  (subst (λ (j : ℕ). Figured p S j f) e last)
            ];
      }

  -- The next task that leaves the limits is the lowest.
  pub lowest : Leaves p S k → IsLeast (Leaves p S) k
  lowest leaves =
      record {
        holds = leaves;
        least = λ j o.
            elim (dec_lt j k) [
              | yes b ↦ absurd (o.outside _ _ (far.each j b).bounded)
              | no b ↦ omega arith
            ];
      }
