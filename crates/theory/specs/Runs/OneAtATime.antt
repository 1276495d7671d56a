-- What a controller does with a tick: it spends it on one task, the right one, where any of its tasks waits, and on none otherwise.
use Rattle.std.specs.Prelude.{ℕ, suc, ◌≤◌, ◌<◌, ◌≡◌, refl, ◌⊎◌, Bool, false, ◌&&◌}
use Rattle.std.proofs.Common.{sym, subst, ◌∙◌, inl, inr, le_antisymm}
use Rattle.std.proofs.Math.Bool.{true}
use Rattle.std.proofs.lemmas.Bool.{false≢true}
use borrow.Author.Tests.{not-true, lt-ltb, eq-eqb, eqb-true}
use Rattle.std.proofs.Math.Decide.{dec_lt}
use native.Mathlib.Omega.{arith}
use Rattle.paper.specs.Words.{any}
use Rattle.paper.specs.Tables.{Plan}
use Rattle.paper.specs.Windows.{rival}
use Rattle.paper.specs.Load.{on}
use Rattle.paper.specs.Running.{Run, waits, runs, state_at}
use Rattle.theory.specs.Plans.Sound.{Sound}
use Rattle.theory.specs.Numbers.Tests.{both, some_passes, passes_or_not, passes_any}
use Rattle.theory.specs.Runs.Rivals.{rival_is}
use Rattle.theory.specs.Runs.Served.{running}
use Rattle.theory.specs.Runs.Service.{serves_urgent}

-- Whether task k waits at tick t.
abbrev pub waiting : Plan → Run → (k t : ℕ) → Bool
waiting p r k t = waits p r (state_at p r t) t k

-- Task k is rightly the one that runs at tick t: no waiting task of its controller is more urgent.
abbrev pub Rightly : Plan → Run → (k t : ℕ) → Type 0
Rightly p r k t =
    (j : ℕ) → j < p.tasks → (p.task j).controller ≡ (p.task k).controller → waiting p r j t ≡ true
    → (p.task k).priority ≤ (p.task j).priority

-- Controller c is idle at tick t: none of its tasks waits, and none runs.
abbrev pub Idle : Plan → Run → (c t : ℕ) → Type 0
Idle p r c t =
    (k : ℕ) → k < p.tasks → (p.task k).controller ≡ c → (waiting p r k t ≡ false) × (running p r k t ≡ false)

-- Controller c spends tick t on exactly one of its tasks.
pub record Spends (p : Plan) (r : Run) (c t : ℕ) : Type 0 where
  pub task : ℕ
  pub counted : task < p.tasks
  pub own : (p.task task).controller ≡ c
  -- That one waits,
  pub waits_then : waiting p r task t ≡ true
  -- it runs,
  pub runs_then : running p r task t ≡ true
  -- rightly,
  pub rightly : Rightly p r task t
  -- and no other does.
  pub alone : (k : ℕ) → k < p.tasks → (p.task k).controller ≡ c → running p r k t ≡ true → k ≡ task

module _ (p : Plan) (r : Run) (t : ℕ) where
  -- A task that runs waits.
  running_waits : (k : ℕ) → running p r k t ≡ true → waiting p r k t ≡ true
  unfolding runs
  running_waits k e = (both _ _ e).0

  -- A task that runs does so rightly.
  running_rightly : (k : ℕ) → running p r k t ≡ true → Rightly p r k t
  unfolding runs rival
  running_rightly k e j l same then =
      elim (dec_lt (p.task j).priority (p.task k).priority) [
        | no less ↦ omega arith
        | yes more ↦
            let none = not-true _ (both (waiting p r k t) _ e).1 in
            let found : (rival p k j && waiting p r j t) ≡ true = rw (eq-eqb _ _ same, lt-ltb _ _ more, then) in
            absurd (false≢true (sym none ∙ passes_any p.tasks (λ j. rival p k j && waiting p r j t) j l found))
      ]

  -- Where a task of a controller runs, the controller spends the tick on it: priorities on a controller differ.
  spends : Sound p → (k : ℕ) → k < p.tasks → running p r k t ≡ true → Spends p r (p.task k).controller t
  spends sound k l e =
      record {
        task = k;
        counted = l;
        own = refl;
        waits_then = running_waits k e;
        runs_then = e;
        rightly = running_rightly k e;
        alone = alone;
      }
    where
      -- a lower task that runs too is as urgent
      same : (i j : ℕ) → i < j → j < p.tasks → (p.task i).controller ≡ (p.task j).controller
          → running p r i t ≡ true → running p r j t ≡ true → ⊥
      same i j lower h c f g =
          sound.apart i j lower h c
          (le_antisymm (running_rightly i f j h (sym c) (running_waits j g))
          (running_rightly j g i (omega arith) c (running_waits i f)))

      -- so there is none
      alone : (j : ℕ) → j < p.tasks → (p.task j).controller ≡ (p.task k).controller → running p r j t ≡ true → j ≡ k
      alone j h c f =
          elim (dec_lt j k) [
            | yes lower ↦ absurd (same j k lower l c f e)
            | no above ↦ elim (dec_lt k j) [ yes lower ↦ absurd (same k j lower h (sym c) e f) | no below ↦ omega arith ]
          ]

  -- Where a task of a controller waits, the controller spends the tick on exactly one of its tasks.
  spends_some : Sound p → (k : ℕ) → k < p.tasks → waiting p r k t ≡ true → Spends p r (p.task k).controller t
  spends_some sound k l e =
      elim (serves_urgent p r t (suc (p.task k).priority) k (omega arith) e) [
        | inl now ↦ spends sound k l now
        | inr (j, h, g, now) ↦ subst (λ c. Spends p r c t) (rival_is p k j g).0 (spends sound j h now)
      ]

-- One at a time: whatever the tick, a controller is idle, or spends it on exactly one of its tasks.
pub one_at_a_time : {p : Plan} → Sound p → (r : Run) (c t : ℕ) → Idle p r c t ⊎ Spends p r c t
one_at_a_time {p} sound r c t =
    elim (passes_or_not (any p.tasks (λ k. on p c k && waiting p r k t))) [
      | inl some ↦
          let (k, l, found) = some_passes p.tasks (λ k. on p c k && waiting p r k t) some in
          let (own, then) = both (on p c k) (waiting p r k t) found in
          inr (subst (λ c. Spends p r c t) (eqb-true _ _ own) (spends_some p r t sound k l then))
      | inr none ↦ inl (λ k l own. idle k l own none)
    ]
  where
    -- where none is found to wait, none waits and none runs
    idle : (k : ℕ) → k < p.tasks → (p.task k).controller ≡ c → any p.tasks (λ k. on p c k && waiting p r k t) ≡ false
        → (waiting p r k t ≡ false) × (running p r k t ≡ false)
    idle k l own none = (still, quiet)
      where
        still : waiting p r k t ≡ false
        still =
            elim (passes_or_not (waiting p r k t)) [
              | inr so ↦ so
              | inl then ↦
                  let found : (on p c k && waiting p r k t) ≡ true = rw (eq-eqb _ _ own, then) in
                  absurd (false≢true (sym none ∙ passes_any p.tasks (λ k. on p c k && waiting p r k t) k l found))
            ]

        quiet : running p r k t ≡ false
        quiet =
            elim (passes_or_not (running p r k t)) [
              | inr so ↦ so
              | inl now ↦ absurd (false≢true (sym still ∙ running_waits p r t k now))
            ]
