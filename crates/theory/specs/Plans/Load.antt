-- What the test of the load in whole numbers means: work over periods is the sum of C+/P, exactly.
use Rattle.std.specs.Prelude.{ℕ, ◌*◌, ◌≤◌, ◌<◌, ◌≡◌, refl, Bool, true, false, cond, not, ◌&&◌, eqb}
use Rattle.std.proofs.Common.{sym, ap, ap₂, ◌∙◌, mul_assoc, le_antisymm, le_of_eq, le_of_mul-le-mul_right}
use Rattle.paper.specs.Words.{sum}
use Rattle.paper.specs.Tables.{Plan}
use Rattle.paper.specs.Load.{period, on, periods, other_periods, work}
use Rattle.theory.specs.Numbers.Sums.{sum_ext}
use Rattle.theory.specs.Numbers.Products.{product_ext, product_without}

-- The periods of the others, and a task's own, are the periods of all.
pub others_and_own : (p : Plan) (c k : ℕ) → k < p.tasks → on p c k ≡ true → other_periods p c k * period p k ≡ periods p c
unfolding other_periods periods
others_and_own p c k h own =
    let is : period p k ≡ cond (on p c k) (period p k) 1 = rw own in
    ap₂ ◌*◌
    (product_ext p.tasks _ (λ j. cond (not (eqb j k)) (cond (on p c j) (period p j) 1) 1) (λ j l. either (on p c j) (eqb j k) (period p j)))
    is
    ∙ product_without p.tasks k (λ j. cond (on p c j) (period p j) 1) h
  where
    either : (a b : Bool) (x : ℕ) → cond (a && not b) x 1 ≡ cond (not b) (cond a x 1) 1
    either true b x = refl
    either false true x = refl
    either false false x = refl

-- What is the same times a number that is not 0 is the same.
same_times : (a b c : ℕ) → 1 ≤ c → a * c ≡ b * c → a ≡ b
same_times a b c some e = le_antisymm (le_of_mul-le-mul_right (le_of_eq e) some) (le_of_mul-le-mul_right (le_of_eq (sym e)) some)

-- The work is the sum of shares, where the share of a task is to all the periods what its C+ is to its period.
pub work_exact : (p : Plan) (c : ℕ) (share : ℕ → ℕ) → ((k : ℕ) → k < p.tasks → 1 ≤ period p k)
    → ((k : ℕ) → k < p.tasks → on p c k ≡ true → share k * period p k ≡ (p.task k).C+ * periods p c)
    → work p c ≡ sum p.tasks (λ k. cond (on p c k) (share k) 0)
unfolding work
work_exact p c share some shares = sum_ext p.tasks _ _ (λ k h. pick (on p c k) _ _ (same k h))
  where
    pick : (b : Bool) (x y : ℕ) → (b ≡ true → x ≡ y) → cond b x 0 ≡ cond b y 0
    pick true x y e = e refl
    pick false x y e = refl

    same : (k : ℕ) → k < p.tasks → on p c k ≡ true → (p.task k).C+ * other_periods p c k ≡ share k
    same k h own =
        same_times _ _ (period p k) (some k h)
        (mul_assoc (p.task k).C+ (other_periods p c k) (period p k)
        ∙ ap (λ x. (p.task k).C+ * x) (others_and_own p c k h own)
        ∙ sym (shares k h own))
