-- Demand 2 of the entry's answer: each refusal is given exactly when document 01's table says.
use Rattle.std.specs.Prelude.{ℕ, ◌≤◌, ◌<◌, ◌≡◌, refl, ◌↔◌}
use Rattle.std.proofs.Common.{arith}
use Rattle.paper.specs.Bytes.{Bytes}
use Rattle.paper.specs.Tables.{Plan, plan_of}
use Rattle.paper.specs.Refusals.{rules, WellFormed}
use Rattle.paper.specs.Sets.{Bounds, Fits}
use Rattle.paper.specs.Load.{Overloaded}
use Rattle.paper.specs.Report.{report_length}
use Rattle.paper.specs.Answer.{Answer, blank, Due, unread, unsound, short, overload, unbounded, accepted}
use Rattle.theory.specs.Plans.Judging.{refused_not_passed}
use Rattle.theory.specs.Outcomes.Unique.{first_none}
use Rattle.theory.specs.Outcomes.Numbers.{unread_number, unsound_number}

-- Every refusal leaves FF in the whole report space.
pub refused_blank : {s : Bytes} {room : ℕ} {a : Answer} {out : Bytes} → Due s room a out → 1 ≤ a.number → out ≡ blank room
refused_blank (unread _) some = refl
refused_blank (unsound _ _) some = refl
refused_blank (short _ _) some = refl
refused_blank (overload _ _ _) some = refl
refused_blank (unbounded _ _ _ _ _) some = refl
refused_blank (accepted _ _ _ _) some = absurd (omega arith)

-- The answer's number is one of 1 to 10 exactly when the plan is not well-formed.
pub ill_formed_exactly : {s : Bytes} {room : ℕ} {a : Answer} {out : Bytes} → Due s room a out
    → ((1 ≤ a.number) × (a.number ≤ 10)) ↔ (WellFormed s → ⊥)
ill_formed_exactly {s} (unread {number = n} {place = k} e) =
    (λ h well. refused_not_passed e well.reads, λ ill. omega (arith, unread_number s n k e))
ill_formed_exactly {s} (unsound {number = n} {place = k} _ first) =
    (λ h well. first_none (rules (plan_of s)) n k first well.sound, λ ill. omega (arith, unsound_number (plan_of s) n k first))
ill_formed_exactly (short well _) = (λ h. absurd (omega arith), λ ill. absurd (ill well))
ill_formed_exactly (overload well _ _) = (λ h. absurd (omega arith), λ ill. absurd (ill well))
ill_formed_exactly (unbounded well _ _ _ _) = (λ h. absurd (omega arith), λ ill. absurd (ill well))
ill_formed_exactly (accepted well _ _ _) = (λ h. absurd (omega arith), λ ill. absurd (ill well))

-- For a well-formed plan it is 11 exactly when the report space is too short.
pub short_exactly : {s : Bytes} {room : ℕ} {a : Answer} {out : Bytes} → WellFormed s → Due s room a out
    → (a.number ≡ 11) ↔ (room < report_length (plan_of s))
short_exactly well (unread e) = absurd (refused_not_passed e well.reads)
short_exactly well (unsound _ first) = absurd (first_none (rules _) _ _ first well.sound)
short_exactly well (short _ less) = (λ e. less, λ less. refl)
short_exactly well (overload _ enough _) = (λ e. absurd (omega arith), λ less. absurd (omega arith))
short_exactly well (unbounded _ enough _ _ _) = (λ e. absurd (omega arith), λ less. absurd (omega arith))
short_exactly well (accepted _ enough _ _) = (λ e. absurd (omega arith), λ less. absurd (omega arith))

-- What a number says of a plan: 12 that a controller's load is above one, 13 that none is and that no set fits, 0 that none is
-- and that a set fits.
data Says (p : Plan) : ℕ → Type 0 where
  heavy : (c : ℕ) → Overloaded p c → Says p 12
  boundless : ((c : ℕ) → Overloaded p c → ⊥) → ((R : Bounds) → Fits p R → ⊥) → Says p 13
  fitted : ((c : ℕ) → Overloaded p c → ⊥) → (R : Bounds) → Fits p R → Says p 0

-- A number that says so is 12 exactly when a controller's load is above one.
twelve : {p : Plan} {n : ℕ} → Says p n → (n ≡ 12) ↔ ((c : ℕ) × Overloaded p c)
twelve (heavy c o) = (λ e. (c, o), λ o. refl)
twelve (boundless light none) = (λ e. absurd (omega arith), λ o. absurd (light o.0 o.1))
twelve (fitted light R fits) = (λ e. absurd (omega arith), λ o. absurd (light o.0 o.1))

-- Where none is, it is 13 exactly when no set fits,
thirteen : {p : Plan} {n : ℕ} → ((c : ℕ) → Overloaded p c → ⊥) → Says p n → (n ≡ 13) ↔ ((R : Bounds) → Fits p R → ⊥)
thirteen light (heavy c o) = absurd (light c o)
thirteen light (boundless _ none) = (λ e. none, λ none. refl)
thirteen light (fitted _ R fits) = (λ e. absurd (omega arith), λ none. absurd (none R fits))

-- and 0 exactly when one does.
nought : {p : Plan} {n : ℕ} → ((c : ℕ) → Overloaded p c → ⊥) → Says p n → (n ≡ 0) ↔ ((R : Bounds) × Fits p R)
nought light (heavy c o) = absurd (light c o)
nought light (boundless _ none) = (λ e. absurd (omega arith), λ some. absurd (none some.0 some.1))
nought light (fitted _ R fits) = (λ e. (R, fits), λ some. refl)

module _ {s : Bytes} {room : ℕ} (well : WellFormed s) (enough : report_length (plan_of s) ≤ room) where
  -- The number of an answer that is due says so of the plan.
  due_says : {a : Answer} {out : Bytes} → Due s room a out → Says (plan_of s) a.number
  due_says (unread e) = absurd (refused_not_passed e well.reads)
  due_says (unsound _ first) = absurd (first_none (rules _) _ _ first well.sound)
  due_says (short _ less) = absurd (omega arith)
  due_says (overload {controller = c} _ _ lowest) = heavy c lowest.holds
  due_says (unbounded _ _ light none _) = boundless light none
  due_says (accepted {f} _ _ light reported) = fitted light f.R reported.least.fits

  -- A well-formed plan whose report has room is refused for overload exactly when the exact load of some controller is above
  -- one.
  pub overload_exactly : {a : Answer} {out : Bytes} → Due s room a out → (a.number ≡ 12) ↔ ((c : ℕ) × Overloaded (plan_of s) c)
  overload_exactly due = twelve (due_says due)

  -- Where none is, it is refused for having no bound exactly when no set satisfying the equations lies within the limits,
  pub no_bound_exactly : {a : Answer} {out : Bytes} → ((c : ℕ) → Overloaded (plan_of s) c → ⊥) → Due s room a out
      → (a.number ≡ 13) ↔ ((R : Bounds) → Fits (plan_of s) R → ⊥)
  no_bound_exactly light due = thirteen light (due_says due)

  -- and accepted exactly when one does.
  pub accepted_exactly : {a : Answer} {out : Bytes} → ((c : ℕ) → Overloaded (plan_of s) c → ⊥) → Due s room a out
      → (a.number ≡ 0) ↔ ((R : Bounds) × Fits (plan_of s) R)
  accepted_exactly light due = nought light (due_says due)
