-- The least and the largest number with a property: each is one number, and a search finds the least.
use Rattle.std.specs.Prelude.{ℕ, zero, suc, ◌<◌, ◌≡◌, ◌⊎◌, ◌↔◌}
use Rattle.std.proofs.Common.{sym, subst, inl, inr, ⊎_elim, le_refl, le_antisymm, le_of_suc-le-suc, eq-or-lt_of_le, arith}
use Rattle.paper.specs.Words.{IsLeast, IsLargest}

-- What every number below n has, and n has too, every number below n + 1 has.
pub every_suc : (P : ℕ → Type 0) (n : ℕ) → ((k : ℕ) → k < n → P k) → P n → (k : ℕ) → k < suc n → P k
every_suc P n below at k l = ⊎_elim (λ e. subst P (sym e) at) (below k) (eq-or-lt_of_le (le_of_suc-le-suc l))

-- Two least numbers with a property are one number.
pub least_one : {P : ℕ → Type 0} {m n : ℕ} → IsLeast P m → IsLeast P n → m ≡ n
least_one {m = m} {n = n} a b = le_antisymm (a.least n b.holds) (b.least m a.holds)

-- Two largest numbers with a property are one number.
pub largest_one : {P : ℕ → Type 0} {m n : ℕ} → IsLargest P m → IsLargest P n → m ≡ n
largest_one {m = m} {n = n} a b = le_antisymm (b.largest m a.holds) (a.largest n b.holds)

-- Of two properties that the same numbers have, the least number is the same.
pub least_same : {P Q : ℕ → Type 0} {n : ℕ} → ((m : ℕ) → P m ↔ Q m) → IsLeast P n ↔ IsLeast Q n
least_same {n = n} same = (
  λ a. record { holds = (same n).0 a.holds; least = λ m q. a.least m ((same m).1 q) },
  λ b. record { holds = (same n).1 b.holds; least = λ m p. b.least m ((same m).0 p) },
)

-- A number with a property that no smaller one has is the least with it.
pub least_of : {P : ℕ → Type 0} {n : ℕ} → P n → ((m : ℕ) → m < n → P m → ⊥) → IsLeast P n
least_of {n = n} h none = record { holds = h; least = λ m g. let l : ¬ (m < n) = λ l. none m l g in omega arith }

-- Of a property that can be decided, either the least number that has it is below n, or no number below n has it.
pub search_least : {P : ℕ → Type 0} → ((n : ℕ) → Dec (P n)) → (n : ℕ)
    → ((m : ℕ) × IsLeast P m × (m < n)) ⊎ ((m : ℕ) → m < n → P m → ⊥)
search_least d zero = inr (λ m l h. omega arith)
search_least {P} d (suc n) =
    elim (search_least d n) [
      | inl f ↦ inl (f.0, f.1, omega arith)
      | inr none ↦
          elim (d n) [
            | yes h ↦ inl (n, least_of h none, le_refl _)
            | no g ↦ inr (every_suc (λ m. P m → ⊥) n none g)
          ]
    ]
