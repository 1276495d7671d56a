-- The tests on rows that tell a plan's tasks decide refusals 7 to 10.
use Rattle.std.proofs.Common.{ℕ, zero, suc, ◌+◌, ◌<◌, arith, ◌≡◌, refl, sym, ap, ◌∙◌, inl, inr, List, true}
use Rattle.std.proofs.Common.{cond, not, ◌&&◌, eqb, length, get_or, eq-eqb, ne_eqb, eqb-true, lt-ltb, ltb-true}
use Rattle.std.proofs.lemmas.Bool.{false≢true, not-true}
use Rattle.paper.specs.Words.{count}
use Rattle.paper.specs.Limits.{most_sharing}
use Rattle.paper.specs.Tables as Tables
use Rattle.paper.specs.Tables.{Source, outside, fed, Plan}
use Rattle.paper.specs.Refusals.{Sharing, feeder, back, FromOutside, Endless, Broken, Crowded}
use Rattle.theory.specs.Numbers.Sums.{sum_ext}
use Rattle.theory.specs.Numbers.Tests.{both, some_passes, passes_any}
use Rattle.theory.specs.Plans.Chains.{Feeders, back_below, endless_decided}
use Rattle.plan.specs.Tables.{Told}
use Rattle.plan.specs.declared.tasks.Task.{Task}
use Rattle.rules.specs.Faults.{shares, back_from, endless, broken, crowded}
use Rattle.rules.specs.Rows.{is_fed, feeder_of, controller_in, priority_in, fed_in, feeder_in}
use Rattle.rules.proofs.Outcome.{Decides}

-- One step back, by what rows tell of a source.
one_back : (source : Source) (k : ℕ) → cond (is_fed source) (feeder_of source) k ≡ feeder source k
unfolding feeder
one_back (outside M) k = refl
one_back (fed j) k = refl

-- A source that is not from outside is another task,
not_outside : (source : Source) → (FromOutside source → ⊥) → is_fed source ≡ true
not_outside (outside M) other = absurd (other tt)
not_outside (fed j) other = refl

-- and one that is another task is not from outside.
outside_not : (source : Source) → is_fed source ≡ true → FromOutside source → ⊥
outside_not (outside M) e o = false≢true e
outside_not (fed j) e o = o

-- What is not fed by a task does not pass the test of a link,
unlinked : (source : Source) (j : ℕ) → (source ≡ fed j → ⊥) → not (is_fed source && eqb (feeder_of source) j) ≡ true
unlinked (outside M) j other = refl
unlinked (fed i) j other = rw (ne_eqb i j (λ e. other (ap fed e)))

-- and what is fed by it does.
linked : (source : Source) (j : ℕ) → source ≡ fed j → (is_fed source && eqb (feeder_of source) j) ≡ true
linked source j e = rw (e, eq-eqb j j refl)

module _ {p : Plan} {rows : List Task} (told : Told p rows) where
  -- The rows tell each task's controller,
  controller_told : (k : ℕ) → k < p.tasks → controller_in rows k ≡ (p.task k).controller
  controller_told k h = ap (λ (t : Tables.Task). t.controller) (told.tasks k h)

  -- its priority,
  priority_told : (k : ℕ) → k < p.tasks → priority_in rows k ≡ (p.task k).priority
  priority_told k h = ap (λ (t : Tables.Task). t.priority) (told.tasks k h)

  -- whether a task feeds it,
  fed_told : (k : ℕ) → k < p.tasks → fed_in rows k ≡ is_fed (p.task k).source
  fed_told k h = ap (λ (t : Tables.Task). is_fed t.source) (told.tasks k h)

  -- and which one.
  pub feeder_told : (k : ℕ) → k < p.tasks → feeder_in rows k ≡ feeder_of (p.task k).source
  feeder_told k h = ap (λ (t : Tables.Task). feeder_of t.source) (told.tasks k h)

  -- 7
  pub decides_7 : Decides p.tasks (shares (controller_in rows) (priority_in rows)) (Sharing p)
  unfolding shares
  decides_7 =
      record {
        counted = λ k w. w.counted;
        finds = λ k w.
            let h : w.other < p.tasks = omega (arith, w.lower, w.counted) in
            passes_any k _ w.other w.lower
            (rw (
              eq-eqb _ _ (controller_told w.other h ∙ w.controller ∙ sym (controller_told k w.counted)),
              eq-eqb _ _ (priority_told w.other h ∙ w.priority ∙ sym (priority_told k w.counted)),
            ));
        found = λ k h e.
            let (j, l, same) = some_passes k _ e in
            let i : j < p.tasks = omega arith in
            let (c, u) = both _ _ same in
            record {
              counted = h;
              other = j;
              lower = l;
              controller = sym (controller_told j i) ∙ eqb-true _ _ c ∙ controller_told k h;
              priority = sym (priority_told j i) ∙ eqb-true _ _ u ∙ priority_told k h;
            };
      }

  -- The steps back that rows tell are those of the plan.
  back_told : Feeders p → (m k : ℕ) → k < p.tasks → back_from (fed_in rows) (feeder_in rows) m k ≡ back p m k
  unfolding back_from back
  back_told feeders zero k h = refl
  back_told feeders (suc m) k h =
      rw (fed_told k h, feeder_told k h, one_back (p.task k).source k)
      (back_told feeders m (feeder (p.task k).source k) (back_below p feeders 1 k h))

  -- What the test of refusal 8 finds, in the plan's words.
  endless_told : Feeders p → (k : ℕ) → k < p.tasks
      → endless (fed_in rows) (feeder_in rows) p.tasks k ≡ is_fed (p.task (back p p.tasks k)).source
  unfolding endless
  endless_told feeders k h =
      rw (back_told feeders p.tasks k h) (fed_told _ (back_below p feeders p.tasks k h))

  -- 8
  pub decides_8 : Feeders p → Decides p.tasks (endless (fed_in rows) (feeder_in rows) p.tasks) (Endless p)
  decides_8 feeders =
      record {
        counted = λ k w. w.counted;
        finds = λ k w. endless_told feeders k w.counted ∙ not_outside _ (w.never p.tasks);
        found = λ k h e.
            elim (endless_decided p feeders k p.tasks h (omega arith)) [
              | inl o ↦ absurd (outside_not _ (sym (endless_told feeders k h) ∙ e) o)
              | inr w ↦ w
            ];
      }

  -- A link that the rows do not show is none of the plan.
  unfed_told : (next before : ℕ) → next < p.tasks → not (fed_in rows next && eqb (feeder_in rows next) before) ≡ true
      → (p.task next).source ≡ fed before → ⊥
  unfed_told next before h apart is =
      let link : (fed_in rows next && eqb (feeder_in rows next) before) ≡ true =
      rw (fed_told next h, feeder_told next h) (linked _ before is) in
      false≢true (sym (not-true _ apart) ∙ link)

  -- 9
  pub decides_9 : (path : ℕ → List ℕ) → ((q : ℕ) → q < p.paths → path q ≡ p.path q)
      → ((q i : ℕ) → q < p.paths → i < length (p.path q) → get_or (p.path q) i 0 < p.tasks)
      → Decides p.paths (λ q. broken (fed_in rows) (feeder_in rows) (path q)) (Broken p)
  unfolding broken
  decides_9 path same steps =
      record {
        counted = λ q w. w.counted;
        finds = λ q w.
            let next = get_or (p.path q) (w.step + 1) 0 in
            let h : next < p.tasks = steps q (w.step + 1) w.counted w.inside in
            rw (same q w.counted)
            (passes_any _ _ w.step (omega (arith, w.inside))
            (rw (fed_told next h, feeder_told next h) (unlinked _ _ w.unfed)));
        found = λ q h e.
            let (i, l, apart) = some_passes _ _ (rw (same q h) at e) in
            let inside : i + 1 < length (p.path q) = omega arith in
            record {
              counted = h;
              step = i;
              inside = inside;
              unfed = unfed_told _ _ (steps q (i + 1) h inside) apart;
            };
      }

  -- The tasks on a controller are as many by the rows.
  crowd_told : (c : ℕ)
      → count p.tasks (λ k. eqb (controller_in rows k) c) ≡ count p.tasks (λ k. eqb (p.task k).controller c)
  unfolding count
  crowd_told c = sum_ext p.tasks _ _ (λ k h. rw (controller_told k h))

  -- 10
  pub decides_10 : Decides p.controllers (crowded (controller_in rows) p.tasks) (Crowded p)
  unfolding crowded
  decides_10 =
      record {
        counted = λ c w. w.counted;
        finds = λ c w. rw (crowd_told c) (lt-ltb most_sharing _ w.many);
        found = λ c h e. record { counted = h; many = ltb-true most_sharing _ (rw (crowd_told c) at e) };
      }
