-- The promise over bytes: what an answer of 0 says, and demand 3 of the numbers that stand in the report.
use Rattle.std.specs.Prelude.{ℕ, suc, ◌+◌, ◌-◌, ◌*◌, ◌≤◌, ◌<◌, ◌≡◌, refl, Bool, true, false, cond, List, [], ◌∷◌, ◌++◌, leb, length, get_or}
use Rattle.std.proofs.Common.{sym, ◌∙◌, inl, inr, arith, leb-true}
use Rattle.paper.specs.Limits.{most_ticks}
use Rattle.paper.specs.Bytes.{Bytes}
use Rattle.paper.specs.Tables.{plan_of}
use Rattle.paper.specs.Refusals.{WellFormed}
use Rattle.paper.specs.Streams.{delayed}
use Rattle.paper.specs.Windows.{output}
use Rattle.paper.specs.Sets.{Bounds, inputs, Consistent, LeastSet}
use Rattle.paper.specs.Load.{period, Overloaded}
use Rattle.paper.specs.Report.{Figures, verdict, along, worst, report, report_length}
use Rattle.paper.specs.Running.{Run, activations, finishes, At, RunOf}
use Rattle.paper.specs.Places.{R+_in, verdict_in, worst_in, Stands}
use Rattle.paper.specs.Kept.{first, last, claims_in, Kept}
use Rattle.paper.specs.Answer.{Answer, blank, Reported, Due, unread, unsound, short, overload, unbounded, accepted}
use Rattle.theory.specs.Numbers.Least.{least_one}
use Rattle.theory.specs.Numbers.Sums.{sum_most}
use Rattle.theory.specs.Numbers.Tests.{passes_or_not}
use Rattle.theory.specs.Streams.Counts.{counts_rise}
use Rattle.theory.specs.Runs.Served.{finishes_counted}
use Rattle.theory.specs.Task.Preemptive.{bounded_most}
use Rattle.theory.specs.Plans.WellFormed.{well_formed→sound, well_formed→ranged}
use Rattle.theory.specs.Sweeps.Climbs.{proper}
use Rattle.theory.specs.Plans.Inputs.{period_law}
use Rattle.theory.specs.Promise.{least_of_all, sweeps_few, kept}
use Rattle.theory.specs.Report.Stands.{Fitting, report_stands}
use Rattle.theory.specs.Outcomes.Numbers.{unread_number, unsound_number}

-- A sum along a path is at most the path's length times the most that a part of it is.
along_most : (path : List ℕ) (f : ℕ → ℕ) (most : ℕ) → ((i : ℕ) → i < length path → f (get_or path i 0) ≤ most)
    → along path f ≤ length path * most
unfolding along
along_most [] f most each = omega arith
along_most (k ∷ path) f most each =
    omega (arith, each 0 (omega arith), along_most path f most (λ i h. each (suc i) (omega arith)))

-- A verdict is 1 or 2.
verdict_small : (b : Bool) → cond b 1 2 ≤ 2
verdict_small true = omega arith
verdict_small false = omega arith

-- A path that meets its deadline has a worst time that is no longer.
verdict_meets : (deadline worst_time : ℕ) → verdict deadline worst_time ≡ 1 → worst_time ≤ deadline
unfolding verdict
verdict_meets deadline worst_time e =
    elim (passes_or_not (leb worst_time deadline)) [
      | inl passes ↦ leb-true _ _ passes
      | inr fails ↦ absurd (omega (arith, rw fails at e))
    ]

-- The figures that may be reported of a well-formed plan fit their bytes in the report.
fitting : {s : Bytes} {f : Figures} → WellFormed s → Reported (plan_of s) f → Fitting (plan_of s) f
unfolding verdict
fitting {s} {f} well reported =
    let p = plan_of s in
    let sound = well_formed→sound s well in
    let ranged = well_formed→ranged s well in
    let R_most : (k : ℕ) → k < p.tasks → f.R k ≤ most_ticks =
    λ k l. bounded_most (proper p sound (inputs p f.R) k l) (reported.bounded k l) in
    let growth = sum_most p.tasks most_ticks (λ k. f.R k - (p.task k).C+) (λ k l. omega (arith, R_most k l)) in
    let path_most : (q : ℕ) → q < p.paths → (g : ℕ → ℕ) → ((k : ℕ) → k < p.tasks → g k ≤ most_ticks)
    → along (p.path q) g ≤ length (p.path q) * most_ticks =
    λ q l g most. along_most (p.path q) g most_ticks (λ i h. most _ (sound.steps q i l h)) in
    record {
      sweeps = omega (arith, sweeps_few well reported.settles, growth, ranged.tasks);
      tasks = omega (arith, ranged.tasks);
      paths = omega (arith, ranged.paths);
      R- = λ k l. omega (arith, sound.costs k l, ranged.cost k l);
      R+ = λ k l. omega (arith, R_most k l);
      input = λ k l. omega (arith, (reported.bounded k l).within.input);
      outputs = λ k l. omega (arith, (reported.bounded k l).within.outputs);
      jobs = λ k l.
          omega (
            arith,
            least_one (reported.bounded k l).bound.jobs (reported.bounded k l).within.jobs,
            (reported.bounded k l).within.few,
          );
      verdicts = λ q l. omega (arith, verdict_small (leb (worst p f.R q) (p.deadline q)));
      bests = λ q l.
          omega (arith, path_most q l (λ k. (p.task k).C-) (λ k h. omega (arith, sound.costs k h, ranged.cost k h)), ranged.path q l);
      worsts = λ q l. omega (arith, path_most q l f.R R_most, ranged.path q l);
      above = λ q l. omega (arith, ranged.deadline q l);
      below = λ q l. omega (arith, path_most q l f.R R_most, ranged.path q l);
    }

-- What an answer of 0 says, with what the report space then holds: the plan is well-formed, no load is above one, the figures
-- are those of the least consistent set within limits, the report is theirs, and they stand in the bytes.
pub record Accepted (s : Bytes) (room : ℕ) (a : Answer) (out : Bytes) : Type 0 where
  pub well : WellFormed s
  pub enough : report_length (plan_of s) ≤ room
  pub light : (controller : ℕ) → Overloaded (plan_of s) controller → ⊥
  pub figures : Figures
  pub reported : Reported (plan_of s) figures
  pub place_is : a.place ≡ report_length (plan_of s)
  pub sweep_is : a.sweep ≡ figures.sweeps
  pub written : out ≡ report (plan_of s) figures ++ blank (room - report_length (plan_of s))
  pub stands : Stands (plan_of s) figures out

-- Whatever the bytes and the room, an answer of 0 says that.
pub accepted_says : {s : Bytes} {room : ℕ} {a : Answer} {out : Bytes} → Due s room a out → a.number ≡ 0 → Accepted s room a out
accepted_says {s} (unread {number = n} {place = k} e) zero = absurd (omega (arith, unread_number s n k e))
accepted_says {s} (unsound {number = n} {place = k} _ first) zero = absurd (omega (arith, unsound_number (plan_of s) n k first))
accepted_says (short _ _) zero = absurd (omega arith)
accepted_says (overload _ _ _) zero = absurd (omega arith)
accepted_says (unbounded _ _ _ _ _) zero = absurd (omega arith)
accepted_says {s} {room} (accepted {f} well enough light reported) zero =
    record {
      well = well;
      enough = enough;
      light = light;
      figures = f;
      reported = reported;
      place_is = refl;
      sweep_is = refl;
      written = refl;
      stands = report_stands (plan_of s) f (blank (room - report_length (plan_of s))) (fitting well reported);
    }

-- The set whose bounds stand in the report of an accepted plan is the least consistent set within limits.
pub accepted_least : {s : Bytes} {room : ℕ} {a : Answer} {out : Bytes} → Due s room a out → a.number ≡ 0
    → (R : Bounds) × LeastSet (plan_of s) R × ((k : ℕ) → k < (plan_of s).tasks → R+_in out k ≡ R k)
accepted_least due zero =
    let says = accepted_says due zero in
    (says.figures.R, says.reported.least, says.stands.R+)

-- The bounds that stand in the report of an accepted plan are no larger, task by task, than any consistent set, within limits or
-- not.
pub accepted_least_of_all : {s : Bytes} {room : ℕ} {a : Answer} {out : Bytes} → Due s room a out → a.number ≡ 0
    → (R' : Bounds) → Consistent (plan_of s) R' → (k : ℕ) → k < (plan_of s).tasks → R+_in out k ≤ R' k
accepted_least_of_all due zero R' consistent k l =
    let says = accepted_says due zero in
    rw (says.stands.R+ k l) (least_of_all says.well says.reported.settles R' consistent k l)

-- The promise: whatever bytes the entry accepts as a plan, with whatever room, and whatever run of that plan, of any length, the
-- run keeps every number that stands in the report.
pub promise : {s : Bytes} {room : ℕ} {a : Answer} {out : Bytes} → Due s room a out → a.number ≡ 0
    → (r : Run) → RunOf (plan_of s) r → Kept (plan_of s) (claims_in (plan_of s) out) r
unfolding output delayed
promise {s} {room} {a} {out} due zero r run =
    let says = accepted_says due zero in
    let p = plan_of s in
    let R = says.figures.R in
    let stands = says.stands in
    let sound = well_formed→sound s says.well in
    let so = kept says.well says.reported.least.fits.consistent r run in
    let stream : (k : ℕ) → k < p.tasks → inputs p R k ≡ record { P = period p k; J = (inputs p R k).J } =
    λ k l i. record { P = period_law sound R k l i; J = (inputs p R k).J } in
    record {
      in_time = λ k m a l. rw (stands.R+ k l) (so.in_time k m a l);
      responses = λ k m ticks l. rw (stands.R- k l, stands.R+ k l) (so.responses k m ticks l);
      inputs_keep = λ k l. rw (stands.input k l, ← stream k l) (so.inputs_keep k l);
      outputs_keep = λ k l. rw (stands.outputs k l, ← period_law sound R k l) (so.outputs_keep k l);
      path_in_time = λ q m a l. rw (stands.worsts q l) (so.path_in_time q m a l);
      path_responses = λ q m a ticks l. rw (stands.bests q l, stands.worsts q l) (so.path_responses q m a ticks l);
    }

-- A path that is said to meet its deadline meets it in every run: a job is finished on its last task once the deadline has passed
-- since its activation on the first, if the run lasts that long.
pub met : {s : Bytes} {room : ℕ} {a : Answer} {out : Bytes} → Due s room a out → a.number ≡ 0
    → (r : Run) → RunOf (plan_of s) r → (q m t : ℕ) → q < (plan_of s).paths → verdict_in out (plan_of s).tasks q ≡ 1
    → At (activations (plan_of s) r (first ((plan_of s).path q))) m t → t + (plan_of s).deadline q ≤ r.ticks
    → m < finishes (plan_of s) r (last ((plan_of s).path q)) (suc (t + (plan_of s).deadline q))
met {s} {room} {a} {out} due zero r run q m t l meets now inside =
    let says = accepted_says due zero in
    let p = plan_of s in
    let in_time : worst p says.figures.R q ≤ p.deadline q =
    verdict_meets (p.deadline q) (worst p says.figures.R q) (sym (says.stands.verdicts q l) ∙ meets) in
    let worst_is = says.stands.worsts q l in
    let done = (promise due zero r run).path_in_time q m t l now (omega arith) in
    omega (
      arith,
      done,
      counts_rise (finishes_counted p r (last (p.path q))) (suc (t + worst_in out p.tasks q)) (suc (t + p.deadline q))
          (omega arith),
    )
