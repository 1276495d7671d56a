-- Only numbers below the count of tasks matter: bounds and streams that agree there give the same jobs and the same report.
use Rattle.std.specs.Prelude.{ℕ, zero, suc, ◌<◌, ◌≡◌, refl, List, [], ◌∷◌, length, get_or}
use Rattle.std.proofs.Common.{sym, arith}
use Rattle.paper.specs.Bytes.{Bytes}
use Rattle.paper.specs.Tables.{Plan}
use Rattle.paper.specs.Windows.{Window, Ends, Jobs, Inputs, interference, setting}
use Rattle.paper.specs.Sets.{Bounds, inputs_back, inputs}
use Rattle.paper.specs.Report.{Figures, along, task_report, path_report, each, report}
use Rattle.theory.specs.Numbers.Sums.{sum_ext}
use Rattle.theory.specs.Sweeps.Climb.{Same}
use Rattle.theory.specs.Plans.Sound.{Sound}
use Rattle.theory.specs.Plans.Chains.{Feeders}
use Rattle.theory.specs.Plans.Inputs.{stream_same}

-- Input streams that agree on the tasks of a plan.
abbrev pub SameInputs : Plan → Inputs → Inputs → Type 0
SameInputs p S S' = (j : ℕ) → j < p.tasks → S j ≡ S' j

-- The interference is the same where the input streams are,
interference_same : (p : Plan) (S S' : Inputs) (k t : ℕ) → SameInputs p S S' → interference p S k t ≡ interference p S' k t
unfolding interference
interference_same p S S' k t same = sum_ext p.tasks _ _ (λ j h. rw (same j h))

-- so the windows are,
window_same : (p : Plan) (S S' : Inputs) (k q B : ℕ) → SameInputs p S S' → Window (setting p S k) q B → Window (setting p S' k) q B
window_same p S S' k q B same w =
    record {
      holds = (w.holds.0, rw (← interference_same p S S' k B same) w.holds.1);
      least = λ t h. w.least t (h.0, rw (interference_same p S S' k t same) h.1);
    }

-- the look at a task's jobs ends alike,
ends_same : (p : Plan) (S S' : Inputs) (k q : ℕ) → k < p.tasks → SameInputs p S S' → Ends (setting p S k) q → Ends (setting p S' k) q
ends_same p S S' k q h same e =
    record { B = e.B; window = window_same p S S' k q e.B same e.window; apart = rw (← same k h) e.apart }

-- and the jobs looked at are as many.
pub jobs_same : (p : Plan) (S S' : Inputs) (k n : ℕ) → k < p.tasks → SameInputs p S S' → Jobs (setting p S k) n → Jobs (setting p S' k) n
jobs_same p S S' k n h same j =
    record {
      holds = (j.holds.0, ends_same p S S' k n h same j.holds.1);
      least = λ q e. j.least q (e.0, ends_same p S' S k q h (λ i l. sym (same i l)) e.1);
    }

-- Where every feeder is a task of the plan, the input streams rest on the bounds of its tasks alone.
inputs_back_same : (p : Plan) (R R' : Bounds) (m : ℕ) → Feeders p → Same p.tasks R R'
    → SameInputs p (inputs_back p R m) (inputs_back p R' m)
unfolding inputs_back
inputs_back_same p R R' zero feeders same k h = refl
inputs_back_same p R R' (suc m) feeders same k h =
    stream_same p R R' (inputs_back p R m) (inputs_back p R' m) (p.task k).source
    (λ j e. (same j (feeders k j h e), inputs_back_same p R R' m feeders same j (feeders k j h e)))

-- Bounds that agree on the tasks of a plan give them the same input streams.
pub inputs_same : (p : Plan) (R R' : Bounds) → Feeders p → Same p.tasks R R' → SameInputs p (inputs p R) (inputs p R')
unfolding inputs
inputs_same p R R' = inputs_back_same p R R' p.tasks

-- A sum along a path is the same where its parts are.
pub along_same : (path : List ℕ) (f g : ℕ → ℕ) → ((i : ℕ) → i < length path → f (get_or path i 0) ≡ g (get_or path i 0))
    → along path f ≡ along path g
unfolding along
along_same [] f g same = refl
along_same (k ∷ path) f g same = rw (same 0 (omega arith), along_same path f g (λ i h. same (suc i) (omega arith)))

-- A row of records is the same where each record is.
pub each_same : (n : ℕ) (f g : ℕ → Bytes) → ((k : ℕ) → k < n → f k ≡ g k) → each n f ≡ each n g
unfolding each
each_same zero f g same = refl
each_same (suc n) f g same = rw (same n (omega arith), each_same n f g (λ k h. same k (omega arith)))

-- Figures that agree on the tasks of a plan.
pub record SameFigures (p : Plan) (f f' : Figures) : Type 0 where
  pub sweeps : f.sweeps ≡ f'.sweeps
  pub R : Same p.tasks f.R f'.R
  pub jobs : (k : ℕ) → k < p.tasks → f.jobs k ≡ f'.jobs k

module _ {p : Plan} {f f' : Figures} (sound : Sound p) (same : SameFigures p f f') where
  -- Such figures give each task one record,
  task_same : (k : ℕ) → k < p.tasks → task_report p f k ≡ task_report p f' k
  unfolding task_report
  task_same k h = rw (same.R k h, same.jobs k h, inputs_same p f.R f'.R sound.feeders same.R k h)

  -- each path one record,
  path_same : (q : ℕ) → q < p.paths → path_report p f q ≡ path_report p f' q
  unfolding path_report
  path_same q h = rw (along_same (p.path q) f.R f'.R (λ i l. same.R _ (sound.steps q i h l)))

  -- and the plan one report.
  pub report_same : report p f ≡ report p f'
  unfolding report
  report_same =
      rw (
        each_same p.tasks (task_report p f) (task_report p f') task_same,
        each_same p.paths (path_report p f) (path_report p f') path_same,
        same.sweeps,
      )
