-- What holds of each number from 1 to n: decided, chosen by a function, and where a function is largest.
use Rattle.std.specs.Prelude.{ℕ, zero, suc, ◌≤◌}
use Rattle.std.proofs.Common.{subst, le_refl, arith}
use Rattle.std.proofs.Math.Decide.{dec_le}

-- Each number from 1 to n has a property.
abbrev pub Every : ℕ → (ℕ → Type 0) → Type 0
Every n A = (q : ℕ) → 1 ≤ q → q ≤ n → A q

-- What each number from 1 to n has, and n + 1 has too, each from 1 to n + 1 has.
pub every_next : {A : ℕ → Type 0} (n : ℕ) → Every n A → A (suc n) → Every (suc n) A
every_next {A} n each next q a l = elim (dec_le q n) [ yes e ↦ each q a e | no e ↦ subst A (omega arith) next ]

-- Where a property can be decided of each number from 1 on, it can be decided of all from 1 to n together.
pub every_decided : {A : ℕ → Type 0} → ((q : ℕ) → 1 ≤ q → Dec (A q)) → (n : ℕ) → Dec (Every n A)
every_decided decide zero = yes (λ q a l. absurd (omega arith))
every_decided decide (suc n) =
    elim (every_decided decide n) [
      | no none ↦ no (λ each. none (λ q a l. each q a (omega arith)))
      | yes each ↦
          elim (decide (suc n) (omega arith)) [
            | no none ↦ no (λ more. none (more (suc n) (omega arith) (le_refl _)))
            | yes next ↦ yes (every_next n each next)
          ]
    ]

-- Where each number from 1 to n has a value, a function gives the values.
pub every_chosen : {P : ℕ → ℕ → Type 0} (n : ℕ) → Every n (λ q. (b : ℕ) × P q b) → (B : ℕ → ℕ) × Every n (λ q. P q (B q))
every_chosen {P} n values = (λ q. (value q (dec_le 1 q) (dec_le q n)).0, λ q. (value q (dec_le 1 q) (dec_le q n)).1)
  where
    value : (q : ℕ) → Dec (1 ≤ q) → Dec (q ≤ n) → (b : ℕ) × (1 ≤ q → q ≤ n → P q b)
    value q (yes a) (yes l) = ((values q a l).0, λ a' l'. (values q a l).1)
    value q (yes a) (no none) = (0, λ a' l'. absurd (none l'))
    value q (no none) l = (0, λ a' l'. absurd (none a'))

-- Somewhere from 1 to n, n at least 1, a function is largest.
pub every_peak : (f : ℕ → ℕ) (n : ℕ) → 1 ≤ n → (q : ℕ) × (1 ≤ q) × (q ≤ n) × Every n (λ m. f m ≤ f q)
every_peak f zero h = absurd (omega arith)
every_peak f (suc zero) h = (1, le_refl _, le_refl _, every_next 0 (λ m a l. absurd (omega arith)) (le_refl _))
every_peak f (suc (suc n)) h =
    let r = every_peak f (suc n) (omega arith) in
    elim (dec_le (f r.0) (f (suc (suc n)))) [
      | yes l ↦ (suc (suc n), omega arith, le_refl _, every_next (suc n) (λ m a h. omega (arith, r.3 m a h)) (le_refl _))
      | no l ↦ (r.0, r.1, omega arith, every_next (suc n) r.3 (omega arith))
    ]
