-- Looking for something by computing: what an answer says, going on from it, the lowest number, one thing for each number.
use Rattle.std.specs.Prelude.{ℕ, zero, suc, ◌<◌, ◌≡◌, refl, ◌↔◌, Bool, true, false, cond, List, [], ◌∷◌, ◌++◌, length, get_or}
use Rattle.std.proofs.lemmas.Bool.{false≢true}
use Rattle.std.proofs.Math.Option.{Option, none, some, bind, or_else}
use Rattle.std.proofs.Common.{length-append, le_refl, arith}
use Rattle.std.proofs.Math.ListN.{get_or-append}
use Rattle.std.proofs.lemmas.List.{get_or_at}
use Rattle.std.proofs.Math.Decide.{dec_lt}
use Rattle.paper.specs.Words.{IsLeast}
use Rattle.theory.specs.Numbers.Least.{every_suc, least_of, least_same}

-- What an answer says of a property: what is found has it, or nothing has it.
abbrev pub Says : {A : Type 0} → (A → Type 0) → Option A → Type 0
Says {A} P none = (a : A) → P a → ⊥
Says P (some a) = P a

-- What holds of each of two, where a test chooses it, holds of the one that it chooses.
pub choice : {A : Type 0} (P : A → Type 0) (b : Bool) {yea nay : A} → (b ≡ true → P yea) → (b ≡ false → P nay)
    → P (cond b yea nay)
choice P true yea nay = yea refl
choice P false yea nay = nay refl

-- Going on from what is found: an answer says what it leads to, where something is found and where nothing is.
pub says_bind : {A B : Type 0} (P : A → Type 0) (Q : B → Type 0) (o : Option A) (f : A → Option B) → Says P o
    → ((a : A) → P a → Says Q (f a)) → (((a : A) → P a → ⊥) → (b : B) → Q b → ⊥) → Says Q (bind o f)
unfolding bind
says_bind P Q none f says on stop = stop says
says_bind P Q (some a) f says on stop = on a says

-- The least number below n with a property is the least below n + 1.
least_further : {P : ℕ → Type 0} {n k : ℕ} → IsLeast (λ k. (k < n) × P k) k → IsLeast (λ k. (k < suc n) × P k) k
least_further {n = n} l =
    record {
      holds = (omega arith, l.holds.1);
      least = λ j h. elim (dec_lt j n) [ yes below ↦ l.least j (below, h.1) | no above ↦ omega arith ];
    }

-- The lowest number below n that passes a test.
unfoldable pub lowest : ℕ → (ℕ → Bool) → Option ℕ
lowest zero test = none
lowest (suc n) test = or_else (lowest n test) (cond (test n) (some n) none)

-- What an answer says of the lowest number with a property: it is the one found, or no number has the property.
abbrev pub Lowest : (ℕ → Type 0) → Option ℕ → Type 0
Lowest P none = (k : ℕ) → P k → ⊥
Lowest P (some k) = IsLeast P k

-- A test tells a property: those below n that pass have it, and no other number.
abbrev pub Tells : (ℕ → Type 0) → ℕ → (ℕ → Bool) → Type 0
Tells P n test = (k : ℕ) → P k ↔ ((k < n) × (test k ≡ true))

-- An answer that is right below n is right below n + 1, with n tested where nothing is found below.
lowest_next : (n : ℕ) (test : ℕ → Bool) (o : Option ℕ) (b : Bool) → test n ≡ b
    → Lowest (λ k. (k < n) × (test k ≡ true)) o
    → Lowest (λ k. (k < suc n) × (test k ≡ true)) (or_else o (cond b (some n) none))
unfolding or_else
lowest_next n test (some k) b e l = least_further l
lowest_next n test none true e l = least_of (le_refl _, e) (λ j below h. l j (below, h.1))
lowest_next n test none false e l =
    λ j h. every_suc (λ k. test k ≡ true → ⊥) n (λ k below p. l k (below, p)) (λ p. false≢true cc) j h.0 h.1

-- The lowest number below n that passes is found.
lowest_passes : (n : ℕ) (test : ℕ → Bool) → Lowest (λ k. (k < n) × (test k ≡ true)) (lowest n test)
unfolding lowest
lowest_passes zero test = λ k h. omega arith
lowest_passes (suc n) test = lowest_next n test (lowest n test) (test n) refl (lowest_passes n test)

-- Where a test tells a property, the lowest number with the property is found.
pub lowest_says : {P : ℕ → Type 0} {n : ℕ} {test : ℕ → Bool} → Tells P n test → Lowest P (lowest n test)
lowest_says {P} {n} {test} tells = same (lowest n test) (lowest_passes n test)
  where
    -- The numbers with the property are those that pass.
    same : (o : Option ℕ) → Lowest (λ k. (k < n) × (test k ≡ true)) o → Lowest P o
    same none l = λ k h. l k ((tells k).0 h)
    same (some k) l = (least_same tells).1 l

-- What is found for each number below n, or the lowest number for which nothing is found.
pub data Row (A : Type 0) : Type 0 where
  whole : List A → Row A
  lacks : ℕ → Row A

-- A row goes on with number n, unless a lower number already lacks.
unfoldable pub longer : {A : Type 0} → Row A → ℕ → Option A → Row A
longer (lacks k) n found = lacks k
longer (whole xs) n none = lacks n
longer (whole xs) n (some x) = whole (xs ++ (x ∷ []))

-- The row of what is found for the numbers below n.
unfoldable pub row : {A : Type 0} → ℕ → (ℕ → Option A) → Row A
row zero find = whole []
row (suc n) find = longer (row n find) n (find n)

-- What a row says of a property of each number's own: what is found for a number has it (`other` is read past the end), or
-- nothing has it for the lowest number that lacks.
abbrev pub Rowed : {A : Type 0} → (ℕ → A → Type 0) → A → ℕ → Row A → Type 0
Rowed P other n (whole xs) = (length xs ≡ n) × ((k : ℕ) → k < n → P k (get_or xs k other))
Rowed {A} P other n (lacks k) = IsLeast (λ k. (k < n) × ((a : A) → P k a → ⊥)) k

-- A row that is right below n is right below n + 1 with what is found for n.
longer_says : {A : Type 0} (P : ℕ → A → Type 0) (other : A) (n : ℕ) (r : Row A) (found : Option A) → Rowed P other n r
    → Says (P n) found → Rowed P other (suc n) (longer r n found)
unfolding longer
longer_says P other n (lacks k) found lowest says = least_further lowest
longer_says P other n (whole xs) none each says =
    least_of (le_refl _, says) (λ j below h. h.1 (get_or xs j other) (each.1 j below))
longer_says P other n (whole xs) (some x) each says = (
  simp length-append (omega arith),
  every_suc (λ k. P k (get_or (xs ++ (x ∷ [])) k other)) n
      (λ k below. rw (get_or-append xs (x ∷ []) other k (omega arith)) (each.1 k below))
      (rw (get_or_at xs x [] other n each.0) says),
)

-- What is found for each number gives the row that says so.
pub row_says : {A : Type 0} (P : ℕ → A → Type 0) (other : A) (n : ℕ) (find : ℕ → Option A)
    → ((k : ℕ) → k < n → Says (P k) (find k)) → Rowed P other n (row n find)
unfolding row
row_says P other zero find says = (refl, λ k h. absurd (omega arith))
row_says P other (suc n) find says =
    longer_says P other n (row n find) (find n) (row_says P other n find (λ k h. says k (omega arith))) (says n (le_refl _))
