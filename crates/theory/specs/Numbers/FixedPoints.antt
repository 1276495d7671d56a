-- The least span that equals its demand: when there is one, what makes it smaller, and how a search comes to it.
use Rattle.std.specs.Prelude.{ℕ, suc, ◌≤◌, ◌<◌, ◌≡◌}
use Rattle.std.proofs.Common.{⊎_elim, arith}
use Rattle.std.proofs.Math.Decide.{dec_le}
use Rattle.paper.specs.Words.{IsLeast}
use Rattle.theory.specs.Numbers.Least.{search_least}

-- A demand, F(t) in a span of t ticks, never falls, and is above 0 in a span above 0.
pub record Rises (F : ℕ → ℕ) : Type 0 where
  pub mono : (s t : ℕ) → s ≤ t → F s ≤ F t
  pub some : (t : ℕ) → 0 < t → 0 < F t

-- The least fixed span: the least t above 0 with t = F(t).
abbrev pub LeastFixed : (ℕ → ℕ) → ℕ → Type 0
LeastFixed F = IsLeast (λ t. (0 < t) × (t ≡ F t))

-- A span above 0 is enough for its demand.
pub record Enough (F : ℕ → ℕ) (t : ℕ) : Type 0 where
  pub above : 0 < t
  pub enough : F t ≤ t

-- Whether a span is enough can be decided.
enough_decided : (F : ℕ → ℕ) (t : ℕ) → Dec (Enough F t)
enough_decided F t =
    elim (dec_le 1 t) [
      | yes a ↦ elim (dec_le (F t) t) [ yes e ↦ yes (omega arith) | no none ↦ no (λ g. omega arith) ]
      | no none ↦ no (λ g. omega arith)
    ]

module _ {F : ℕ → ℕ} (rises : Rises F) where
  -- The least span that is enough is the least fixed one.
  pub enough_fixed : {t : ℕ} → IsLeast (Enough F) t → LeastFixed F t
  enough_fixed {t} l =
      let next : Enough F (F t) =
      record { above = rises.some t (omega arith); enough = rises.mono (F t) t (omega arith) } in
      record { holds = omega (arith, l.least (F t) next); least = λ s e. l.least s (omega arith) }

  -- Where a span is enough, there is a least fixed one, and it is no longer.
  pub fixed_exists : (s : ℕ) → Enough F s → (b : ℕ) × LeastFixed F b × (b ≤ s)
  fixed_exists s e =
      ⊎_elim
      (λ f. (f.0, enough_fixed f.1, omega arith))
      (λ none. absurd (none s (omega arith) e))
      (search_least (enough_decided F) (suc s))

  -- The least fixed span is the least that is enough.
  pub fixed_enough : {b : ℕ} → LeastFixed F b → IsLeast (Enough F) b
  fixed_enough l =
      record {
        holds = omega arith;
        least = λ s e. let f = fixed_exists s e in omega (arith, l.least f.0 f.1.holds);
      }

  -- Whether there is a least fixed span up to a limit can be decided.
  pub fixed_decided : (top : ℕ) → Dec ((b : ℕ) × LeastFixed F b × (b ≤ top))
  fixed_decided top =
      ⊎_elim
      (λ f. yes (f.0, enough_fixed f.1, omega arith))
      (λ none. no (λ f. none f.0 (omega arith) (fixed_enough f.1).holds))
      (search_least (enough_decided F) (suc top))

  -- A demand nowhere larger than another has a least fixed span where the other has, and it is no longer.
  pub fixed_smaller : {F' : ℕ → ℕ} {b' : ℕ} → ((t : ℕ) → F t ≤ F' t) → LeastFixed F' b'
      → (b : ℕ) × LeastFixed F b × (b ≤ b')
  fixed_smaller {b' = b'} h l = fixed_exists b' (omega (arith, h b'))

-- A search for the least fixed span, which goes from t to F(t), has come to t: t is demanded, and no lesser span is enough.
pub record Reached (F : ℕ → ℕ) (t : ℕ) : Type 0 where
  pub above : 0 < t
  pub demanded : t ≤ F t
  pub below : (s : ℕ) → Enough F s → t ≤ s

-- A search may start at what is demanded in every span.
pub reached_start : {F : ℕ → ℕ} (t : ℕ) → 0 < t → ((s : ℕ) → t ≤ F s) → Reached F t
reached_start t a h = record { above = a; demanded = h t; below = λ s e. omega (arith, h s) }

-- A search that has come to t comes to F(t) next.
pub reached_step : {F : ℕ → ℕ} {t : ℕ} → Rises F → Reached F t → Reached F (F t)
reached_step {F} {t} rises r =
    record {
      above = omega arith;
      demanded = rises.mono t (F t) r.demanded;
      below = λ s e. omega (arith, rises.mono t s (r.below s e));
    }

-- A search that has come to a span equal to its demand is done: it is the least fixed one.
pub reached_done : {F : ℕ → ℕ} {t : ℕ} → Reached F t → F t ≡ t → LeastFixed F t
reached_done r e = record { holds = omega arith; least = λ s f. r.below s (omega arith) }

-- A search never comes beyond the least fixed span: one that has come beyond a limit shows that there is none up to it.
pub reached_beyond : {F : ℕ → ℕ} {t b : ℕ} → Reached F t → LeastFixed F b → t ≤ b
reached_beyond {b = b} r l = r.below b (omega arith)
