-- More numbers than places: a function repeats.
use Rattle.std.specs.Prelude.{ℕ, zero, suc, ◌+◌, ◌-◌, ◌≤◌, ◌<◌, min, ◌≡◌, ◌⊎◌}
use Rattle.std.proofs.Common.{sym, ap, ◌∙◌, inl, inr, arith}
use Rattle.std.proofs.Math.Decide.{ℕ_discrete}

-- f takes one value twice at the numbers up to n.
pub record Repeats (f : ℕ → ℕ) (n : ℕ) : Type 0 where
  pub first : ℕ
  pub again : ℕ
  pub before : first < again
  pub last : again ≤ n
  pub same : f first ≡ f again

-- Where f takes a value below n, or that it takes it nowhere there.
taken : (f : ℕ → ℕ) (v n : ℕ) → ((i : ℕ) × (i < n) × (f i ≡ v)) ⊎ ((i : ℕ) → i < n → f i ≡ v → ⊥)
taken f v zero = inr (λ i h e. absurd (omega arith))
taken f v (suc n) =
    elim (ℕ_discrete (f n) v) [
      | yes e ↦ inl (n, omega arith, e)
      | no d ↦ elim (taken f v n) [ inl t ↦ inl (t.0, omega arith, t.2) | inr never ↦ inr (nowhere d never) ]
    ]
  where
    -- What f does not take below n, nor at n, it does not take below n + 1.
    nowhere : (f n ≡ v → ⊥) → ((i : ℕ) → i < n → f i ≡ v → ⊥) → (i : ℕ) → i < suc n → f i ≡ v → ⊥
    nowhere d never i h e = elim (ℕ_discrete i n) [ yes same ↦ d (rw same at e) | no other ↦ never i (omega arith) e ]

-- A number with v left out: what is above v moves one down.
abbrev lowered : ℕ → ℕ → ℕ
lowered v a = a - min 1 (a - v)

-- And back: what is not below v moves one up.
abbrev raised : ℕ → ℕ → ℕ
raised v a = a + min 1 (suc a - v)

-- Every number but v comes back.
raised_lowered : (v a : ℕ) → (a ≡ v → ⊥) → raised v (lowered v a) ≡ a
raised_lowered v a other = omega arith

-- Where f never takes a value and repeats with that value left out, f repeats.
left_out : (f : ℕ → ℕ) (v n : ℕ) → ((i : ℕ) → i ≤ n → f i ≡ v → ⊥) → Repeats (λ i. lowered v (f i)) n → Repeats f (suc n)
left_out f v n never twice =
    record {
      first = twice.first;
      again = twice.again;
      before = twice.before;
      last = omega arith;
      same =
          sym (raised_lowered v (f twice.first) (never twice.first (omega arith)))
          ∙ ap (raised v) twice.same
          ∙ raised_lowered v (f twice.again) (never twice.again twice.last);
    }

-- A function that is below n at the numbers up to n takes one value twice there.
pub repeats : (n : ℕ) (f : ℕ → ℕ) → ((i : ℕ) → i ≤ n → f i < n) → Repeats f n
repeats zero f below = absurd (omega (arith, below 0 (omega arith)))
repeats (suc n) f below =
    elim (taken f (f (suc n)) (suc n)) [
      | inl t ↦ record { first = t.0; again = suc n; before = t.1; last = omega arith; same = t.2 }
      | inr never ↦
          left_out f (f (suc n)) n (λ i h. never i (omega arith))
          (repeats n (λ i. lowered (f (suc n)) (f i))
          (λ i h. omega (arith, below i (omega arith), below (suc n) (omega arith), never i (omega arith))))
    ]
