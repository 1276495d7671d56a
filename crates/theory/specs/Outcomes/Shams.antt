-- Document 01's shams, tried against the entry's contract: none of them meets it.
use Rattle.std.specs.Prelude.{ℕ, suc, ◌≤◌, ◌<◌, refl, length, replicate}
use Rattle.std.proofs.Math.Path.{◌≡◌, ap}
use Rattle.std.proofs.Common.{sym, subst, ◌∙◌}
use mathlib.Core.List.{[], ◌∷◌, flatten, Memᴰ}
use Rattle.std.proofs.lemmas.List.{length-replicate}
use native.Mathlib.Omega.{arith}
use Rattle.paper.specs.Limits.{most_ticks}
use Rattle.paper.specs.Bytes.{Bytes, number, bytes}
use Rattle.paper.specs.Tables.{fed, plan_of}
use Rattle.paper.specs.Sets.{Bounds, Fits}
use Rattle.paper.specs.Sweeps.{Swept, Settles}
use Rattle.paper.specs.Report.{record_of, head_record, task_record, path_record, each, report_length}
use Rattle.paper.specs.Places.{R+_in}
use Rattle.paper.specs.Answer.{Answer, Due}
use Rattle.theory.specs.Outcomes.Unique.{due_one}
use Rattle.theory.specs.Twin.Answer.{refusal, space, due_some}
use Rattle.theory.specs.Starred.{every, plan, task_of, path_of, reported, Run, ◌gets◌, table, starred}
use Rattle.theory.specs.Outcomes.Promise.{accepted_says, accepted_least}

-- What an entry does: its answer, and what the report space holds at exit.
pub record Did : Type 0 where
  pub answer : Answer
  pub report : Bytes

-- An entry: what it does with plan bytes and what the report space holds at entry.
abbrev pub Entry : Type 0
Entry = Bytes → Bytes → Did

-- An entry meets the contract of `answer`.
abbrev pub Meets : Entry → Type 0
Meets entry = (s lent : Bytes) → Due s (length lent) (entry s lent).answer (entry s lent).report

-- Some entry meets it.
pub some_meets : (entry : Entry) × Meets entry
some_meets = (
  λ s lent. record { answer = (due_some s (length lent)).0; report = (due_some s (length lent)).1 },
  λ s lent. (due_some s (length lent)).2,
)

-- The starred run A: accepted, R+ 3, one sweep;
abbrev A : Run
A = plan 1 (task_of 0 1 3 (every 10 0) ∷ []) [] gets reported 1 (task_record 0 3 3 0 0 1 ∷ []) []

-- D: accepted, R+ 10;
abbrev D : Run
D = plan 1 (task_of 0 1 10 (every 10 0) ∷ []) [] gets reported 1 (task_record 0 10 10 0 0 1 ∷ []) []

-- E: refused, 13;
abbrev E : Run
E = plan 1 (task_of 0 1 10 (every 10 1) ∷ []) [] gets refusal 13 0 1

-- I: accepted, in four sweeps.
abbrev I : Run
I =
    plan 2
    (task_of 0 2 4 (every 10 0) ∷ task_of 1 1 4 (fed 0) ∷ task_of 1 2 4 (every 10 0) ∷ task_of 0 1 4 (fed 2) ∷ [])
    (path_of 20 (0 ∷ 1 ∷ []) ∷ path_of 20 (2 ∷ 3 ∷ []) ∷ [])
    gets reported 4
    (task_record 0 4 12 0 8 2 ∷ task_record 1 4 6 8 10 2 ∷ task_record 2 4 12 0 8 2 ∷ task_record 3 4 6 8 10 2 ∷ [])
    (path_record 0 20 8 18 ∷ path_record 1 20 8 18 ∷ [])

-- A stands in the table,
A_starred : Memᴰ A table
unfolding table
A_starred = Memᴰ.head refl

-- so does D,
D_starred : Memᴰ D table
unfolding table
D_starred = Memᴰ.tail (Memᴰ.tail (Memᴰ.tail (Memᴰ.head refl)))

-- so does E,
E_starred : Memᴰ E table
unfolding table
E_starred = Memᴰ.tail (Memᴰ.tail (Memᴰ.tail (Memᴰ.tail (Memᴰ.head refl))))

-- and so does I.
I_starred : Memᴰ I table
unfolding table
I_starred =
    Memᴰ.tail (Memᴰ.tail (Memᴰ.tail (Memᴰ.tail (Memᴰ.tail (Memᴰ.tail (Memᴰ.tail
    (Memᴰ.tail (Memᴰ.head refl))))))))

-- Report space with room for any report, full of zeros.
abbrev lent : Bytes
lent = replicate 4096 0

-- The sweep number is one number: an invented one is not due.
pub sweep_one : {s : Bytes} {room : ℕ} {a a' : Answer} {out out' : Bytes} → Due s room a out → Due s room a' out'
    → a.sweep ≡ a'.sweep
sweep_one due due' = ap (λ a. a.sweep) (due_one due due').0

-- With an accepted plan it is that of the first sweep that changed nothing.
pub sweep_first : {s : Bytes} {room : ℕ} {a : Answer} {out : Bytes} → Due s room a out → a.number ≡ 0
    → (R : Bounds) × Settles (plan_of s) a.sweep R
sweep_first {s} due zero =
    let says = accepted_says due zero in (
      says.figures.R,
      subst (λ m. Settles (plan_of s) m says.figures.R) (sym says.sweep_is) says.reported.settles,
    )

-- A bound above that of some consistent set within limits is not due.
pub generous : {s : Bytes} {room : ℕ} {a : Answer} {out : Bytes} → Due s room a out → a.number ≡ 0
    → (R : Bounds) → Fits (plan_of s) R → (k : ℕ) → k < (plan_of s).tasks → R k < R+_in out k → ⊥
generous due zero R fits k l above =
    let set = accepted_least due zero in
    omega (arith, set.1.least R fits k l, set.2 k l)

-- An accepted report with the bounds of the set after m + 1 sweeps has a sweep number of at most m + 2.
pub early : {s : Bytes} {room : ℕ} {a : Answer} {out : Bytes} → Due s room a out → a.number ≡ 0
    → (m : ℕ) (R : Bounds) → Swept (plan_of s) (suc m) R → ((k : ℕ) → k < (plan_of s).tasks → R+_in out k ≡ R k)
    → a.sweep ≤ suc (suc m)
early {s} due zero m R (old, before, sweep) same =
    let says = accepted_says due zero in
    let f = says.figures in
    let agree : (k : ℕ) → k < (plan_of s).tasks → R k ≡ f.R k = λ k l. sym (same k l) ∙ says.stands.R+ k l in
    rw says.sweep_is
    (says.reported.settles.first.least (suc (suc m))
    (f.R, ((old, before, λ k l. ((sweep k l).0, rw (← agree k l) (sweep k l).1)), λ k l. (f.jobs k, says.reported.bounded k l))))

-- What the table says an entry does with a run, lent that space.
abbrev DoesAs : Entry → Run → Type 0
DoesAs entry run =
    ((entry run.plan lent).answer ≡ run.outcome.answer)
    × ((entry run.plan lent).report ≡ space 4096 run.outcome.report)

module _ (entry : Entry) (meets : Meets entry) where
  -- An entry that meets the contract does with each starred run what the table says.
  does : (run : Run) → Memᴰ run table → report_length (plan_of run.plan) ≤ 4096 → DoesAs entry run
  does run h enough =
      let did = entry run.plan lent in
      let due = subst (λ room. Due run.plan room did.answer did.report) (length-replicate {A = ℕ} 4096 0)
      (meets run.plan lent) in
      due_one due (starred run h 4096 enough)

  -- So it does with A,
  does_A : DoesAs entry A
  unfolding report_length plan_of number plan task_of record_of flatten bytes each
  does_A = does A A_starred (omega arith)

  -- with D,
  does_D : DoesAs entry D
  unfolding report_length plan_of number plan task_of record_of flatten bytes each
  does_D = does D D_starred (omega arith)

  -- with E,
  does_E : DoesAs entry E
  unfolding report_length plan_of number plan task_of record_of flatten bytes each
  does_E = does E E_starred (omega arith)

  -- and with I.
  does_I : DoesAs entry I
  unfolding report_length plan_of number plan task_of path_of record_of flatten bytes each
  does_I = does I I_starred (omega arith)

  -- "One that refuses all plans" does not meet the contract;
  pub refuses_all : ((s lent : Bytes) → 1 ≤ (entry s lent).answer.number) → ⊥
  unfolding reported
  refuses_all sham = omega (arith, sham A.plan lent, ap (λ a. a.number) does_A.0)

  -- nor does "one fixed report";
  pub fixed_report : ((s s' lent : Bytes) → (entry s lent).answer.number ≡ 0 → (entry s' lent).answer.number ≡ 0
      → (entry s lent).report ≡ (entry s' lent).report) → ⊥
  unfolding reported head_record task_record record_of flatten bytes number
  fixed_report sham =
      let alike = sham A.plan D.plan lent (ap (λ a. a.number) does_A.0) (ap (λ a. a.number) does_D.0) in
      let same : ◌≡◌ {A = ℕ} 3 10 = ap (λ out. R+_in out 0) (sym does_A.1 ∙ alike ∙ does_D.1) in
      omega arith

  -- nor "bounds set to the limit";
  pub at_the_limit : ((s lent : Bytes) → (entry s lent).answer.number ≡ 0 → R+_in (entry s lent).report 0 ≡ most_ticks) → ⊥
  unfolding reported head_record task_record record_of flatten bytes number
  at_the_limit sham =
      let three : R+_in (entry A.plan lent).report 0 ≡ 3 = ap (λ out. R+_in out 0) does_A.1 in
      omega (arith, three, sham A.plan lent (ap (λ a. a.number) does_A.0))

  -- nor "one that writes nothing" when it accepts,
  pub accepts_in_silence : ((s lent : Bytes) → (entry s lent).answer.number ≡ 0 → (entry s lent).report ≡ lent) → ⊥
  unfolding reported head_record task_record record_of flatten bytes number
  accepts_in_silence sham =
      let silent = sham A.plan lent (ap (λ a. a.number) does_A.0) in
      let same : ◌≡◌ {A = ℕ} 0 0x81 = ap (λ out. number out 0 1) (sym silent ∙ does_A.1) in
      omega arith

  -- or when it refuses;
  pub refuses_in_silence : ((s lent : Bytes) → 1 ≤ (entry s lent).answer.number → (entry s lent).report ≡ lent) → ⊥
  unfolding number
  refuses_in_silence sham =
      let silent = sham E.plan lent (omega (arith, ap (λ a. a.number) does_E.0)) in
      let same : ◌≡◌ {A = ℕ} 0 0xFF = ap (λ out. number out 0 1) (sym silent ∙ does_E.1) in
      omega arith

  -- nor "one that sweeps once and only counts afterwards", whatever sweep number it gives;
  pub sweeps_once : ((s lent : Bytes) → (entry s lent).answer.number ≡ 0
      → (R : Bounds) × Swept (plan_of s) 1 R × ((k : ℕ) → k < (plan_of s).tasks → R+_in (entry s lent).report k ≡ R k)) → ⊥
  unfolding reported
  sweeps_once sham =
      let zero : (entry I.plan lent).answer.number ≡ 0 = ap (λ a. a.number) does_I.0 in
      let once = sham I.plan lent zero in
      omega (
        arith,
        ap (λ a. a.sweep) does_I.0,
        early (meets I.plan lent) zero 0 once.0 once.1 once.2,
      )

  -- nor one with "an invented sweep number", the same for all plans.
  pub invented_sweep : (m : ℕ) → ((s lent : Bytes) → (entry s lent).answer.sweep ≡ m) → ⊥
  unfolding reported
  invented_sweep m sham =
      omega (
        arith,
        sham A.plan lent,
        sham I.plan lent,
        ap (λ a. a.sweep) does_A.0,
        ap (λ a. a.sweep) does_I.0,
      )
