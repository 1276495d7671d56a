-- No two outcomes: one answer is due at most, one content of the report space, and one part for a path.
use Rattle.std.specs.Prelude.{ℕ, ◌≡◌, refl}
use Rattle.std.proofs.Common.{sym, ◌∙◌, inl, inr, le_antisymm, arith}
use mathlib.Core.HLevel.{dec→stable}
use mathlib.Core.List.{List, [], ◌∷◌, List-discrete}
use Rattle.std.proofs.Math.Decide.{ℕ_discrete, dec_lt}
use Rattle.paper.specs.Bytes.{Bytes}
use Rattle.paper.specs.Tables.{Plan, plan_of}
use Rattle.paper.specs.Refusals.{Rule, rule, rules, None, First, WellFormed, Asked}
use Rattle.paper.specs.Sets.{Bounds, inputs, LeastSet}
use Rattle.paper.specs.Report.{Figures}
use Rattle.paper.specs.Answer.{Answer, Reported, Due, unread, unsound, short, overload, unbounded, accepted}
use Rattle.theory.specs.Sweeps.Climb.{Same}
use Rattle.theory.specs.Sweeps.Demand2.{leaving_one}
use Rattle.theory.specs.Plans.Sound.{Sound}
use Rattle.theory.specs.Plans.Judging.{refused_not_passed}
use Rattle.theory.specs.Numbers.Least.{least_one}
use Rattle.theory.specs.Outcomes.Same.{SameInputs, SameFigures, inputs_same, jobs_same, report_same}
use Rattle.theory.specs.Plans.WellFormed.{well_formed→sound}

-- The first refusal that tables give is one refusal, at one place.
pub first_one : (table : List Rule) (n n' k k' : ℕ) → First table n k → First table n' k' → (n ≡ n') × (k ≡ k')
first_one [] n n' k k' f f' = absurd f
first_one (rule own Wrong ∷ table) n n' k k' (inl f) (inl f') = (cc, least_one f.1 f'.1)
first_one (rule own Wrong ∷ table) n n' k k' (inl f) (inr f') = absurd (f'.0 k f.1.holds)
first_one (rule own Wrong ∷ table) n n' k k' (inr f) (inl f') = absurd (f.0 k' f'.1.holds)
first_one (rule own Wrong ∷ table) n n' k k' (inr f) (inr f') = first_one table n n' k k' f.1 f'.1

-- A first refusal, and none, exclude each other.
pub first_none : (table : List Rule) (n k : ℕ) → First table n k → None table → ⊥
first_none [] n k f none = f
first_none (rule own Wrong ∷ table) n k (inl f) none = none.0 k f.1.holds
first_none (rule own Wrong ∷ table) n k (inr f) none = first_none table n k f.1 none.1

-- The least consistent set within limits is one set.
pub least_set_one : {p : Plan} {R R' : Bounds} → LeastSet p R → LeastSet p R' → Same p.tasks R R'
least_set_one {p} {R} {R'} l l' k h = le_antisymm (l.least R' l'.fits k h) (l'.least R l.fits k h)

-- Figures that may be reported agree on the tasks of the plan.
pub reported_same : {p : Plan} {f f' : Figures} → Sound p → Reported p f → Reported p f' → SameFigures p f f'
reported_same {p} {f} {f'} sound r r' =
    let bounds = least_set_one r.least r'.least in
    let streams : SameInputs p (inputs p f.R) (inputs p f'.R) = inputs_same p f.R f'.R sound.feeders bounds in
    record {
      sweeps = least_one r.settles.first r'.settles.first;
      R = bounds;
      jobs = λ k h.
          least_one (jobs_same p _ (inputs p f'.R) k _ h streams (r.bounded k h).bound.jobs) (r'.bounded k h).bound.jobs;
    }

-- An answer is its number, its place and its sweep.
answer_one : {n n' k k' m m' : ℕ} → n ≡ n' → k ≡ k' → m ≡ m'
    → ◌≡◌ {A = Answer} (record { number = n; place = k; sweep = m }) (record { number = n'; place = k'; sweep = m' })
answer_one n k m = λ i. record { number = n i; place = k i; sweep = m i }

-- One answer is due at most, with one content of the report space:
pub due_one : {s : Bytes} {room : ℕ} {a a' : Answer} {out out' : Bytes} → Due s room a out → Due s room a' out'
    → (a ≡ a') × (out ≡ out')
-- where reading refuses, it does not pass;
due_one (unread e) (unsound r _) = absurd (refused_not_passed e r)
due_one (unsound r _) (unread e) = absurd (refused_not_passed e r)
due_one (unread e) (short w _) = absurd (refused_not_passed e w.reads)
due_one (short w _) (unread e) = absurd (refused_not_passed e w.reads)
due_one (unread e) (overload w _ _) = absurd (refused_not_passed e w.reads)
due_one (overload w _ _) (unread e) = absurd (refused_not_passed e w.reads)
due_one (unread e) (unbounded w _ _ _ _) = absurd (refused_not_passed e w.reads)
due_one (unbounded w _ _ _ _) (unread e) = absurd (refused_not_passed e w.reads)
due_one (unread e) (accepted w _ _ _) = absurd (refused_not_passed e w.reads)
due_one (accepted w _ _ _) (unread e) = absurd (refused_not_passed e w.reads)
-- where the tables give a refusal, the plan is not well-formed;
due_one (unsound _ f) (short w _) = absurd (first_none (rules _) _ _ f w.sound)
due_one (short w _) (unsound _ f) = absurd (first_none (rules _) _ _ f w.sound)
due_one (unsound _ f) (overload w _ _) = absurd (first_none (rules _) _ _ f w.sound)
due_one (overload w _ _) (unsound _ f) = absurd (first_none (rules _) _ _ f w.sound)
due_one (unsound _ f) (unbounded w _ _ _ _) = absurd (first_none (rules _) _ _ f w.sound)
due_one (unbounded w _ _ _ _) (unsound _ f) = absurd (first_none (rules _) _ _ f w.sound)
due_one (unsound _ f) (accepted w _ _ _) = absurd (first_none (rules _) _ _ f w.sound)
due_one (accepted w _ _ _) (unsound _ f) = absurd (first_none (rules _) _ _ f w.sound)
-- the room is too short or it is enough;
due_one (short _ l) (overload _ h _) = absurd (omega arith)
due_one (overload _ h _) (short _ l) = absurd (omega arith)
due_one (short _ l) (unbounded _ h _ _ _) = absurd (omega arith)
due_one (unbounded _ h _ _ _) (short _ l) = absurd (omega arith)
due_one (short _ l) (accepted _ h _ _) = absurd (omega arith)
due_one (accepted _ h _ _) (short _ l) = absurd (omega arith)
-- a controller's load is above one or none is;
due_one (overload _ _ o) (unbounded _ _ n _ _) = absurd (n _ o.holds)
due_one (unbounded _ _ n _ _) (overload _ _ o) = absurd (n _ o.holds)
due_one (overload _ _ o) (accepted _ _ n _) = absurd (n _ o.holds)
due_one (accepted _ _ n _) (overload _ _ o) = absurd (n _ o.holds)
-- no set of bounds fits or one does;
due_one (unbounded _ _ _ n _) (accepted _ _ _ r) = absurd (n _ r.least.fits)
due_one (accepted _ _ _ r) (unbounded _ _ _ n _) = absurd (n _ r.least.fits)
-- and each case by itself fixes its answer.
due_one (unread e) (unread e') = (answer_one (cc) (cc) refl, refl)
due_one (unsound _ f) (unsound _ f') =
    let one = first_one (rules _) _ _ _ _ f f' in
    (answer_one one.0 one.1 refl, refl)
due_one (short _ _) (short _ _) = (refl, refl)
due_one (overload _ _ o) (overload _ _ o') = (answer_one refl (least_one o o') refl, refl)
due_one (unbounded _ _ _ _ l) (unbounded _ _ _ _ l') =
    let one = leaving_one l l' in
    (answer_one refl one.1 one.0, refl)
due_one {s} (accepted w _ _ r) (accepted _ _ _ r') =
    let sound = well_formed→sound s w in
    let same = reported_same sound r r' in
    (answer_one refl refl same.sweeps, rw (report_same sound same))

-- One part at most is handed back for a path, at one place.
pub asked_one : {s : Bytes} {q from from' : ℕ} {part part' : Bytes} → Asked s q from part → Asked s q from' part'
    → (from ≡ from') × (part ≡ part')
asked_one {s} {q} {from} {from'} {part} {part'} a a' = (
  dec→stable (ℕ_discrete from from') (λ other. never (λ same. other same.0)),
  dec→stable (List-discrete ℕ_discrete part part') (λ other. never (λ same. other same.1)),
)
  where
    -- Two parts that are the same as a third are the same.
    agree : {third : ℕ} {bytes : Bytes} → (from ≡ third) × (part ≡ bytes) → (from' ≡ third) × (part' ≡ bytes)
        → (from ≡ from') × (part ≡ part')
    agree x y = (x.0 ∙ sym y.0, x.1 ∙ sym y.1)

    -- They are never two.
    never : ((from ≡ from') × (part ≡ part') → ⊥) → ⊥
    never other =
        elim (dec_lt q (plan_of s).paths) [
          | yes h ↦
              let ill_formed : WellFormed s → ⊥ = λ well. other (agree (a.held well h) (a'.held well h)) in
              other (agree (a.ill_formed ill_formed) (a'.ill_formed ill_formed))
          | no h ↦ other (agree (a.uncounted (omega arith)) (a'.uncounted (omega arith)))
        ]
