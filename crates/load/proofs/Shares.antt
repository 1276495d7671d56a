-- What the shares of a plan's tasks say of the plan.
use Rattle.std.proofs.Common.{ℕ, ◌≤◌, ◌<◌, arith, ◌≡◌, sym, ap, ap₂, ◌∙◌}
use Rattle.std.proofs.Common.{Bool, true, false, cond, not, ◌&&◌, true≢false, List, length, Option, Some, None, ltb, eqb, ltb-true, lt-ltb}
use Rattle.std.proofs.Math.Decide.{dec_le}
use Rattle.std.specs.Option.{MatchOption, option_map}
use Rattle.paper.specs.Words.{count}
use Rattle.paper.specs.Limits.{most_sharing}
use Rattle.paper.specs.Tables.{Plan}
use Rattle.paper.specs.Refusals.{Crowded}
use Rattle.paper.specs.Load.{on, period, periods, other_periods, work, Overloaded}
use Rattle.load.specs.Fraction.{denominator, numerator}
use Rattle.load.specs.declared.Share.{Share}
use Rattle.load.specs.Shares.{on_in, is_above_one, Shares, Says}
use Rattle.theory.specs.Numbers.Sums.{sum_ext}
use Rattle.theory.specs.Numbers.Products.{product_ext}

-- The denominator depends on the tasks below n alone.
denominator_same : (n : ℕ) {on on' : ℕ → Bool} {P P' : ℕ → ℕ} → ((k : ℕ) → k < n → on k ≡ on' k)
    → ((k : ℕ) → k < n → P k ≡ P' k) → denominator n on P ≡ denominator n on' P'
unfolding denominator
denominator_same n e f = product_ext n _ _ (λ k l. rw (e k l, f k l))

-- The numerator depends on the tasks below n alone.
numerator_same : (n : ℕ) {on on' : ℕ → Bool} {C C' P P' : ℕ → ℕ} → ((k : ℕ) → k < n → on k ≡ on' k)
    → ((k : ℕ) → k < n → C k ≡ C' k) → ((k : ℕ) → k < n → P k ≡ P' k) → numerator n on C P ≡ numerator n on' C' P'
unfolding numerator
numerator_same n e f g =
    sum_ext n _ _
    (λ k l. rw (e k l, f k l, denominator_same n (λ j h. ap (λ b. b && not (eqb j k)) (e j h)) g))

module _ {p : Plan} {controllers : ℕ} {shares : List Share} (h : Shares p controllers shares) where
  -- The shares and the plan agree on which tasks are on a controller,
  on_same : (c k : ℕ) → k < length shares → on_in shares c k ≡ on p c k
  on_same c k l = ap (λ n. eqb n c) (h.controller_of k l)

  -- on how many there are,
  count_same : (c : ℕ) → count (length shares) (on_in shares c) ≡ count p.tasks (on p c)
  unfolding count
  count_same c =
      sum_ext (length shares) _ _ (λ k l. ap (λ b. cond b 1 0) (on_same c k l)) ∙ ap (λ n. count n (on p c)) (sym h.tasks_are)

  -- and on whether the load is above one.
  agree : (c : ℕ) → is_above_one shares c ≡ ltb (periods p c) (work p c)
  unfolding periods other_periods work denominator numerator
  agree c =
      ap₂ ltb
      (denominator_same (length shares) (on_same c) h.period_is ∙ ap (λ n. denominator n (on p c) (period p)) (sym h.tasks_are))
      (numerator_same (length shares) (on_same c) h.cost_of h.period_is
      ∙ ap (λ n. numerator n (on p c) (λ k. (p.task k).C+) (period p)) (sym h.tasks_are))

  -- No controller of a plan without refusal 10 has more tasks by the shares than it may have.
  pub uncrowded : ((c : ℕ) → Crowded p c → ⊥) → (c : ℕ) → c < controllers → count (length shares) (on_in shares c) ≤ most_sharing
  uncrowded f c l =
      elim (dec_le (count (length shares) (on_in shares c)) most_sharing) [
        | yes g ↦ g
        | no g ↦ absurd (f c (record { counted = rw h.controllers_are l; many = rw (← count_same c) (omega arith) }))
      ]

  -- A load that is not above one by the shares is not above one.
  spared : (c : ℕ) → is_above_one shares c ≡ false → Overloaded p c → ⊥
  spared c e o = true≢false (sym (lt-ltb _ _ o.above_one) ∙ sym (agree c) ∙ e)

  -- The first load that is above one by the shares is the lowest above one.
  lowest : (c : ℕ) → c < controllers → ((j : ℕ) → j < c → is_above_one shares j ≡ false) → is_above_one shares c ≡ true
      → Says p (Some (record { 0 = c }))
  lowest c l f e =
      record {
        holds = record { counted = rw h.controllers_are l; above_one = ltb-true _ _ (sym (agree c) ∙ e) };
        least = λ m o. elim (dec_le c m) [ yes g ↦ g | no g ↦ absurd (spared m (f m (omega arith)) o) ];
      }

  -- Where none is above one by the shares, there is none.
  nowhere : ((j : ℕ) → j < controllers → is_above_one shares j ≡ false) → Says p None
  nowhere f c o = spared c (f c (rw h.controllers_are at o.counted)) o

  -- What a search through the controllers from 0 on finds is what there is to say.
  pub found : (r : Option ℕ) → MatchOption r
      ((k : ℕ) → 0 ≤ k → k < controllers → is_above_one shares k ≡ false)
      (λ c. (0 ≤ c) × (c < controllers) × (is_above_one shares c ≡ true)
      × ((k : ℕ) → 0 ≤ k → k < c → is_above_one shares k ≡ false))
      → Says p (option_map (λ c. record { 0 = c }) r)
  found (Some c) f = lowest c f.1 (λ j l. f.3 j (omega arith) l) f.2
  found None f = nowhere (λ j l. f j (omega arith) l)
