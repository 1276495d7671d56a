-- From tests to refusals: the lowest number where a test finds something wrong, and the first of several refusals.
use Rattle.std.proofs.Common.{ℕ, zero, suc, ◌≤◌, ◌<◌, arith, ◌≡◌, refl, inl, inr, ⊎_elim, List, [], ◌∷◌, Bool, true, false}
use Rattle.std.proofs.Math.Decide.{dec_lt, ℕ_discrete}
use Rattle.std.proofs.lemmas.Bool.{false≢true, not-true, not-false}
use Rattle.paper.specs.Fields.{Judged, passed, refused, ◌and_then◌}
use Rattle.paper.specs.Refusals.{Rule, rule, None, First}
use Rattle.theory.specs.Plans.Judging.{refused_not_passed, passed_both, then_refused, unless_passed, unless_refused}
use Rattle.plan.proofs.Chain.{and_then_passed}
use Rattle.rules.specs.Faults.{lowest}

-- A test tells what is wrong at the numbers below n.
pub record Decides (n : ℕ) (wrong : ℕ → Bool) (Wrong : ℕ → Type 0) : Type 0 where
  pub counted : (k : ℕ) → Wrong k → k < n
  pub finds : (k : ℕ) → Wrong k → wrong k ≡ true
  pub found : (k : ℕ) → k < n → wrong k ≡ true → Wrong k

-- What a judge says of a table of rules is the first refusal that is due, or that none is.
pub record Outcome (table : List Rule) (judged : Judged) : Type 0 where
  pub first : (number place : ℕ) → judged ≡ refused number place → First table number place
  pub none : judged ≡ passed → None table

-- What a refusal at the lowest number says.
record Lowest (refusal : ℕ) (wrong : ℕ → Bool) (n number place : ℕ) : Type 0 where
  own : number ≡ refusal
  counted : place < n
  there : wrong place ≡ true
  lower : (k : ℕ) → k < place → wrong k ≡ false

module _ (refusal : ℕ) (wrong : ℕ → Bool) where
  -- Where nothing is refused, nothing is wrong.
  lowest_passed : (n : ℕ) → lowest refusal wrong n ≡ passed → (k : ℕ) → k < n → wrong k ≡ false
  unfolding lowest
  lowest_passed zero e k h = absurd (omega arith)
  lowest_passed (suc n) e k h =
      let both = passed_both _ _ e in
      elim (ℕ_discrete k n) [
        | yes same ↦ rw same (not-true _ (unless_passed _ _ _ both.1))
        | no other ↦ lowest_passed n both.0 k (omega arith)
      ]

  -- Where something is refused, it is wrong, and nothing below is.
  lowest_refused : (n number place : ℕ) → lowest refusal wrong n ≡ refused number place → Lowest refusal wrong n number place
  unfolding lowest
  lowest_refused zero number place e = absurd (refused_not_passed e refl)
  lowest_refused (suc n) number place e =
      ⊎_elim
      (λ first.
      let l = lowest_refused n number place first in
      record { own = l.own; counted = omega arith; there = l.there; lower = l.lower })
      (λ last.
      let here = unless_refused _ _ _ _ _ last.1 in
      record {
        own = here.1;
        counted = omega arith;
        there = rw here.2 (not-false _ here.0);
        lower = λ k h. lowest_passed n last.0 k (omega arith);
      })
      (then_refused _ _ number place e)

-- A rule that a test decides comes before the others.
pub outcome_more : (refusal n : ℕ) (wrong : ℕ → Bool) {Wrong : ℕ → Type 0} {table : List Rule} {judged : Judged}
    → Decides n wrong Wrong → Outcome table judged
    → Outcome (rule refusal Wrong ∷ table) (lowest refusal wrong n and_then judged)
outcome_more refusal n wrong {Wrong} decides later =
    record {
      first = λ number place e.
          ⊎_elim
          (λ here.
          let l = lowest_refused refusal wrong n number place here in
          inl (
            l.own,
            record {
              holds = decides.found place l.counted l.there;
              least = λ k bad. least place k l.lower (decides.finds k bad);
            },
          ))
          (λ after. inr (nothing after.0, later.first number place after.1))
          (then_refused _ _ number place e);
      none = λ e. let both = passed_both _ _ e in (nothing both.0, later.none both.1);
    }
  where
    -- Where the rule's own judge passes, nothing is wrong.
    nothing : lowest refusal wrong n ≡ passed → (k : ℕ) → Wrong k → ⊥
    nothing e k bad =
        let none = lowest_passed refusal wrong n e k (decides.counted k bad) in
        let some = decides.finds k bad in
        false≢true cc

    -- What is wrong is not below the lowest.
    least : (place k : ℕ) → ((k : ℕ) → k < place → wrong k ≡ false) → wrong k ≡ true → place ≤ k
    least place k lower some =
        elim (dec_lt k place) [ yes l ↦ let none = lower k l in absurd (false≢true cc) | no l ↦ omega arith ]

-- The last rule of a table.
pub outcome_last : (refusal n : ℕ) (wrong : ℕ → Bool) {Wrong : ℕ → Type 0} → Decides n wrong Wrong
    → Outcome (rule refusal Wrong ∷ []) (lowest refusal wrong n)
outcome_last refusal n wrong decides =
    let none : Outcome [] passed = record { first = λ number place e. absurd (refused_not_passed e refl); none = λ e. tt } in
    rw (and_then_passed (lowest refusal wrong n)) at (outcome_more refusal n wrong decides none)
