-- The rivals of a task, and laws of sums over them.
use Rattle.std.specs.Prelude.{ℕ, ◌+◌, ◌≤◌, ◌<◌, ◌≡◌, refl, Bool, true, false, cond}
use Rattle.std.proofs.Common.{arith, ltb-true, lt-ltb, eqb-true, eq-eqb}
use Rattle.paper.specs.Words.{sum}
use Rattle.paper.specs.Tables.{Plan}
use Rattle.paper.specs.Windows.{rival}
use Rattle.theory.specs.Numbers.Tests.{both}
use Rattle.theory.specs.Numbers.Sums.{sum_mono, sum_two, sum_more, sum_less}

-- A rival of task k is on its controller, and more urgent.
pub rival_is : (p : Plan) (k j : ℕ) → rival p k j ≡ true
    → ((p.task j).controller ≡ (p.task k).controller) × ((p.task j).priority < (p.task k).priority)
unfolding rival
rival_is p k j e =
    let (same, less) = both _ _ e in
    (eqb-true _ _ same, ltb-true _ _ less)

-- A rival of a rival is a rival.
pub rival_trans : (p : Plan) (k j i : ℕ) → rival p k j ≡ true → rival p j i ≡ true → rival p k i ≡ true
unfolding rival
rival_trans p k j i e g =
    let (same, less) = rival_is p k j e in
    let (like, under) = rival_is p j i g in
    let c : (p.task i).controller ≡ (p.task k).controller = omega arith in
    let u : (p.task i).priority < (p.task k).priority = omega arith in
    rw (eq-eqb _ _ c, lt-ltb _ _ u)

-- What counts only under a test grows with what counts.
cond_mono : (b : Bool) (x y : ℕ) → x ≤ y → cond b x 0 ≤ cond b y 0
cond_mono true x y h = h
cond_mono false x y h = omega arith

-- What counts only under a test is at most two that do, where it is at most the two.
cond_two : (b : Bool) (x y z : ℕ) → x ≤ y + z → cond b x 0 ≤ cond b y 0 + cond b z 0
cond_two true x y z h = h
cond_two false x y z h = omega arith

-- What counts only under a test is smaller only where the test passes.
cond_less : (b : Bool) (x y : ℕ) → cond b x 0 < cond b y 0 → (b ≡ true) × (x < y)
cond_less true x y h = (refl, h)
cond_less false x y h = absurd (omega arith)

-- The sum of f over the rivals of task k.
abbrev pub over_rivals : Plan → ℕ → (ℕ → ℕ) → ℕ
over_rivals p k f = sum p.tasks (λ j. cond (rival p k j) (f j) 0)

module _ (p : Plan) (k : ℕ) (f g : ℕ → ℕ) where
  -- A sum over the rivals grows with its parts.
  pub over_rivals_mono : ((j : ℕ) → j < p.tasks → f j ≤ g j) → over_rivals p k f ≤ over_rivals p k g
  over_rivals_mono parts = sum_mono p.tasks _ _ (λ j l. cond_mono (rival p k j) (f j) (g j) (parts j l))

  -- A sum over the rivals grows where a rival's part does, and none falls.
  pub over_rivals_more : ((j : ℕ) → j < p.tasks → f j ≤ g j) → (j : ℕ) → j < p.tasks → rival p k j ≡ true → f j < g j
      → over_rivals p k f < over_rivals p k g
  over_rivals_more parts j l e grows =
      sum_more p.tasks _ _ (λ i h. cond_mono (rival p k i) (f i) (g i) (parts i h)) j l (rw e grows)

  -- A smaller sum over the rivals has a smaller part.
  pub over_rivals_less : over_rivals p k f < over_rivals p k g → (j : ℕ) × (j < p.tasks) × (rival p k j ≡ true) × (f j < g j)
  over_rivals_less h =
      let (j, l, less) = sum_less p.tasks (λ j. cond (rival p k j) (f j) 0) (λ j. cond (rival p k j) (g j) 0) h in
      let (e, smaller) = cond_less (rival p k j) (f j) (g j) less in
      (j, l, e, smaller)

  -- A sum over the rivals is at most two where each part is at most the two parts.
  pub over_rivals_two : (h : ℕ → ℕ) → ((j : ℕ) → j < p.tasks → f j ≤ g j + h j)
      → over_rivals p k f ≤ over_rivals p k g + over_rivals p k h
  over_rivals_two h parts = sum_two p.tasks _ _ _ (λ j l. cond_two (rival p k j) (f j) (g j) (h j) (parts j l))
