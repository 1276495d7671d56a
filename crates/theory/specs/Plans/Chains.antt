-- Going back from feeder to feeder: where it comes to rest, and how many steps tell whether it does.
use Rattle.std.specs.Prelude.{ℕ, zero, suc, ◌+◌, ◌-◌, ◌*◌, ◌≤◌, ◌<◌, ◌≡◌, refl, ◌⊎◌}
use Rattle.std.proofs.Common.{sym, ◌∙◌, inl, inr, zero-add, suc-add, add_comm, zero-mul, suc-mul, arith}
use Rattle.paper.specs.Tables.{Source, outside, fed, Plan}
use Rattle.paper.specs.Refusals.{feeder, back, FromOutside, Endless}
use Rattle.theory.specs.Plans.Pigeonhole.{Repeats, repeats}

-- Every feeder is a task of the plan.
abbrev pub Feeders : Plan → Type 0
Feeders p = (k j : ℕ) → k < p.tasks → (p.task k).source ≡ fed j → j < p.tasks

-- Going back a steps and then b more is going back a + b steps.
pub back_add : (p : Plan) (a b k : ℕ) → back p (a + b) k ≡ back p b (back p a k)
unfolding back
back_add p zero b k = rw zero-add
back_add p (suc a) b k = rw suc-add (back_add p a b (feeder (p.task k).source k))

-- One step back from a fed task is its feeder.
pub back_fed : (p : Plan) (m k j : ℕ) → (p.task k).source ≡ fed j → back p (suc m) k ≡ back p m j
unfolding back feeder
back_fed p m k j e = rw e

-- A task fed from outside is where going back rests.
pub back_rests : (p : Plan) (m k : ℕ) → FromOutside (p.task k).source → back p m k ≡ k
unfolding back feeder
back_rests p zero k h = refl
back_rests p (suc m) k h = rw (own (p.task k).source k h) (back_rests p m k h)
  where
    -- One step back from such a task is the task itself.
    own : (s : Source) (k : ℕ) → FromOutside s → feeder s k ≡ k
    own (outside M) k h = refl
    own (fed j) k h = absurd h

-- Once a task fed from outside is reached, more steps change nothing.
pub back_stays : (p : Plan) (m n k : ℕ) → FromOutside (p.task (back p m k)).source → m ≤ n → back p n k ≡ back p m k
back_stays p m n k h le =
    let split : n ≡ m + (n - m) = omega arith in
    rw (split, back_add p m (n - m) k) (back_rests p (n - m) (back p m k) h)

-- Going back from a task of the plan leads to tasks of the plan.
pub back_below : (p : Plan) → Feeders p → (m k : ℕ) → k < p.tasks → back p m k < p.tasks
unfolding back feeder
back_below p feeders zero k h = h
back_below p feeders (suc m) k h = back_below p feeders m _ (one (p.task k).source refl)
  where
    -- One step back from a task of the plan is a task of the plan.
    one : (s : Source) → (p.task k).source ≡ s → feeder s k < p.tasks
    one (outside M) e = h
    one (fed j) e = feeders k j h e

-- Where c steps back from a task lead to it again, so do c steps any number of times.
back_round : (p : Plan) (c k n : ℕ) → back p c k ≡ k → back p (n * c) k ≡ k
unfolding back
back_round p c k zero e = rw zero-mul
back_round p c k (suc n) e = rw (suc-mul, add_comm, back_add p c (n * c) k, e) (back_round p c k n e)

-- Where going back meets a task twice and ever reaches one fed from outside, it is the same task.
back_met : (p : Plan) (i c n k : ℕ) → back p i k ≡ back p (i + suc c) k → FromOutside (p.task (back p n k)).source
    → back p i k ≡ back p n k
back_met p i c n k e o =
    let once : back p (suc c) (back p i k) ≡ back p i k = sym (e ∙ back_add p i (suc c) k) in
    sym (back_add p i (n * suc c) k ∙ back_round p (suc c) (back p i k) n once)
    ∙ back_stays p n (i + n * suc c) k o (omega arith)

-- Where going back ever reaches a task fed from outside, one step fewer than there are tasks reaches it.
pub back_ends : (p : Plan) → Feeders p → (k m n : ℕ) → k < p.tasks → p.tasks ≤ suc m
    → FromOutside (p.task (back p n k)).source → FromOutside (p.task (back p m k)).source
back_ends p feeders k m n h far o = met (repeats p.tasks (λ i. back p i k) (λ i le. back_below p feeders i k h))
  where
    -- The task that is met twice is fed from outside, and going back rests there.
    met : Repeats (λ i. back p i k) p.tasks → FromOutside (p.task (back p m k)).source
    met t =
        let i : ℕ = t.first in
        let c : ℕ = t.again - suc i in
        let split : t.again ≡ i + suc c = omega arith in
        let there : FromOutside (p.task (back p i k)).source = rw (back_met p i c n k (rw split at t.same) o) o in
        rw (back_stays p i m k there (omega arith)) there

-- Whether a source is from outside.
from_outside : (s : Source) → FromOutside s ⊎ (FromOutside s → ⊥)
from_outside (outside M) = inl tt
from_outside (fed j) = inr (λ o. o)

-- One step fewer than there are tasks tells: it reaches a task fed from outside, or going back never does.
pub endless_decided : (p : Plan) → Feeders p → (k m : ℕ) → k < p.tasks → p.tasks ≤ suc m
    → FromOutside (p.task (back p m k)).source ⊎ Endless p k
endless_decided p feeders k m h far =
    elim (from_outside (p.task (back p m k)).source) [
      | inl o ↦ inl o
      | inr other ↦ inr (record { counted = h; never = λ n o. other (back_ends p feeders k m n h far o) })
    ]

-- Where refusal 8 is not due, every chain has a start, fewer steps back than there are tasks.
pub chains_end : (p : Plan) → Feeders p → ((k : ℕ) → Endless p k → ⊥) → (k : ℕ) → k < p.tasks
    → (m : ℕ) × (m < p.tasks) × FromOutside (p.task (back p m k)).source
chains_end p feeders none k h =
    let m : ℕ = p.tasks - 1 in
    elim (endless_decided p feeders k m h (omega arith)) [ inl o ↦ (m, omega arith, o) | inr e ↦ absurd (none k e) ]
