-- The refusals that a plan's tables give, 7 to 10 and 12, by computing: a test for each, and the lowest place that passes it.
use Rattle.std.specs.Prelude.{ℕ, ◌+◌, ◌-◌, ◌≡◌, refl, Bool, true, false, not, ◌&&◌, List, [], ◌∷◌, ltb, eqb, length, get_or}
use Rattle.std.proofs.Common.{sym, ◌∙◌, inl, inr, ⊎_elim, ltb-true, lt-ltb, eqb-true, eq-eqb, ne_eqb, arith}
use Rattle.std.proofs.lemmas.Bool.{false≢true, not-true}
use Rattle.std.proofs.Math.Option.{Option, none, some}
use Rattle.paper.specs.Words.{any, count}
use Rattle.paper.specs.Limits.{most_sharing}
use Rattle.paper.specs.Fields.{Judged, passed, refused, ◌and_then◌}
use Rattle.paper.specs.Tables.{Source, outside, fed, Plan}
use Rattle.paper.specs.Refusals.{Sharing, back, FromOutside, Endless, Broken, Crowded, Rule, rule, rules, None, First}
use Rattle.paper.specs.Load.{periods, work, Overloaded}
use Rattle.theory.specs.Numbers.Tests.{both, some_passes, passes_any}
use Rattle.theory.specs.Plans.Chains.{Feeders, endless_decided}
use Rattle.theory.specs.Twin.Finding.{lowest, Lowest, Tells, lowest_says}

-- 7: whether a lower-numbered task has task k's controller and its priority.
unfoldable pub sharing : Plan → ℕ → Bool
sharing p k =
    any k (λ j.
    eqb (p.task j).controller (p.task k).controller && eqb (p.task j).priority (p.task k).priority)

-- Whether a task feeds a source.
unfoldable pub is_fed : Source → Bool
is_fed (outside M) = false
is_fed (fed j) = true

-- 8: whether going back from task k, as many steps as there are tasks, reaches no 20.
unfoldable pub endless : Plan → ℕ → Bool
endless p k = is_fed (p.task (back p p.tasks k)).source

-- Whether task j feeds a source.
unfoldable pub feeds : ℕ → Source → Bool
feeds j (outside M) = false
feeds j (fed i) = eqb i j

-- 9: whether some task of path q is not fed by the one before it.
unfoldable pub broken : Plan → ℕ → Bool
broken p q =
    any (length (p.path q) - 1) (λ i.
    not (feeds (get_or (p.path q) i 0) (p.task (get_or (p.path q) (i + 1) 0)).source))

-- 10: whether more than 16 tasks are on controller c.
unfoldable pub crowded : Plan → ℕ → Bool
crowded p c = ltb most_sharing (count p.tasks (λ k. eqb (p.task k).controller c))

-- 12: the lowest controller whose load is above one.
unfoldable pub overloaded : Plan → Option ℕ
overloaded p = lowest p.controllers (λ c. ltb (periods p c) (work p c))

-- A refusal at the place found, if one is.
unfoldable pub refused_at : ℕ → Option ℕ → Judged
refused_at number none = passed
refused_at number (some place) = refused number place

-- 7 to 10, by number, each at its lowest place.
unfoldable pub judge : Plan → Judged
judge p =
    refused_at 7 (lowest p.tasks (sharing p))
    and_then refused_at 8 (lowest p.tasks (endless p))
    and_then refused_at 9 (lowest p.paths (broken p))
    and_then refused_at 10 (lowest p.controllers (crowded p))
    and_then passed

-- The test of 7 tells.
sharing_tells : (p : Plan) → Tells (Sharing p) p.tasks (sharing p)
unfolding sharing
sharing_tells p k = (
  λ s. (
    s.counted,
    passes_any k _ s.other s.lower (rw (eq-eqb _ _ s.controller, eq-eqb _ _ s.priority)),
  ),
  λ h.
      let (j, lower, e) = some_passes k _ h.1 in
      let same = both _ _ e in
      record {
        counted = h.0;
        other = j;
        lower = lower;
        controller = eqb-true _ _ same.0;
        priority = eqb-true _ _ same.1;
      },
)

-- A source that is not from outside is fed,
unfed_outside : (source : Source) → (FromOutside source → ⊥) → is_fed source ≡ true
unfolding is_fed
unfed_outside (outside M) other = absurd (other tt)
unfed_outside (fed j) other = refl

-- and no source is both.
fed_not_outside : (source : Source) → is_fed source ≡ true → FromOutside source → ⊥
unfolding is_fed
fed_not_outside (outside M) e o = false≢true e
fed_not_outside (fed j) e o = o

-- The test of 8 tells.
endless_tells : (p : Plan) → Feeders p → Tells (Endless p) p.tasks (endless p)
unfolding endless
endless_tells p feeders k = (
  λ e. (e.counted, unfed_outside _ (e.never p.tasks)),
  λ h.
      ⊎_elim (λ o. absurd (fed_not_outside _ h.1 o)) (λ e. e)
      (endless_decided p feeders k p.tasks h.0 (omega arith)),
)

-- A source that task j feeds passes its test,
fed_feeds : (source : Source) (j : ℕ) → source ≡ fed j → feeds j source ≡ true
unfolding feeds
fed_feeds source j e = rw (e, eq-eqb j j refl)

-- and any other fails it.
unfed_feeds : (source : Source) (j : ℕ) → (source ≡ fed j → ⊥) → not (feeds j source) ≡ true
unfolding feeds
unfed_feeds (outside M) j other = refl
unfed_feeds (fed i) j other = rw (ne_eqb i j (λ e. other (rw e)))

-- The test of 9 tells.
broken_tells : (p : Plan) → Tells (Broken p) p.paths (broken p)
unfolding broken
broken_tells p q = (
  λ b. (b.counted, passes_any _ _ b.step (omega arith) (unfed_feeds _ _ b.unfed)),
  λ h.
      let (i, below, e) = some_passes _ _ h.1 in
      record {
        counted = h.0;
        step = i;
        inside = omega arith;
        unfed = λ is. false≢true (sym (not-true _ e) ∙ fed_feeds _ _ is);
      },
)

-- The test of 10 tells.
crowded_tells : (p : Plan) → Tells (Crowded p) p.controllers (crowded p)
unfolding crowded
crowded_tells p c = (
  λ many. (many.counted, lt-ltb _ _ many.many),
  λ h. record { counted = h.0; many = ltb-true _ _ h.1 },
)

-- The lowest overloaded controller is found; where none is found, no controller is overloaded.
pub overloaded_says : (p : Plan) → Lowest (Overloaded p) (overloaded p)
unfolding overloaded
overloaded_says p =
    lowest_says (λ c. (
      λ o. (o.counted, lt-ltb _ _ o.above_one),
      λ h. record { counted = h.0; above_one = ltb-true _ _ h.1 },
    ))

-- What a judge of tables says of their refusals: none is due, or the first that is due, at its lowest place.
abbrev pub Judges : List Rule → Judged → Type 0
Judges table passed = None table
Judges table (refused number place) = First table number place

-- One refusal more, before the others.
judges_first : (number : ℕ) (Wrong : ℕ → Type 0) (table : List Rule) (found : Option ℕ) (later : Judged)
    → Lowest Wrong found → Judges table later → Judges (rule number Wrong ∷ table) (refused_at number found and_then later)
unfolding refused_at ◌and_then◌
judges_first number Wrong table none passed first others = (first, others)
judges_first number Wrong table none (refused n k) first others = inr (first, others)
judges_first number Wrong table (some k) later first others = inl (refl, first)

-- Where every feeder is a task of the plan, the judge gives the first refusal of 7 to 10 that is due, and passes where none is.
pub judge_says : (p : Plan) → Feeders p → Judges (rules p) (judge p)
unfolding rules judge
judge_says p feeders =
    judges_first 7 (Sharing p) (rule 8 (Endless p) ∷ rule 9 (Broken p) ∷ rule 10 (Crowded p) ∷ []) _ _ (lowest_says (sharing_tells p))
    (judges_first 8 (Endless p) (rule 9 (Broken p) ∷ rule 10 (Crowded p) ∷ []) _ _ (lowest_says (endless_tells p feeders))
    (judges_first 9 (Broken p) (rule 10 (Crowded p) ∷ []) _ _ (lowest_says (broken_tells p))
    (judges_first 10 (Crowded p) [] _ passed (lowest_says (crowded_tells p)) tt)))
