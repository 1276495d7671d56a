-- Laws of runs of stores, on which the writers' proofs rest. Assumes nothing.
use Rattle.std.proofs.Common.{ℕ, suc, ◌+◌, ◌-◌, ◌≤◌, ◌*◌, ◌≡◌, sym, ap, ap₂, ◌∙◌}
use Rattle.std.proofs.Common.{[], ◌∷◌, ◌++◌, append-nil, append_assoc, add-suc, suc-add, add-zero, zero-add, add-one, arith}
use Rattle.std.proofs.Common.{length, take, drop, set, replicate, length-drop, drop_of_length-le, take_all, take_at, drop-drop}
use Rattle.std.proofs.lemmas.List.Edits.{sets, sets-eq}
use Rattle.std.proofs.Math.Seq.{length-sets}
use borrow.Rule.Slice.PartMut.{mid_of, post_of, put_mid}
use Rattle.paper.specs.Bytes.{Bytes}
use Rattle.paper.specs.Report.{each}
use Rattle.theory.specs.Report.Length.{each_length}
use Rattle.report.specs.Wrote.{Wrote}

-- One run of stores after another is one run.
pub sets_append : (l : Bytes) (i : ℕ) (vs ws : Bytes) → sets (sets l i vs) (i + length vs) ws ≡ sets l i (vs ++ ws)
sets_append l i [] ws = rw (add-zero i)
sets_append l i (v ∷ vs) ws = rw (add-suc, ← suc-add) (sets_append (set l i v) (suc i) vs ws)

-- Bytes written right behind those at the front make these longer.
pub more : {l l' l'' : Bytes} {at : ℕ} {xs ys : Bytes} → Wrote l 0 xs l' → Wrote l' at ys l'' → length xs ≡ at
    → Wrote l 0 (xs ++ ys) l''
more {l} {l'} {l''} {at} {xs} {ys} front behind long =
    record { is = behind.is ∙ rw (front.is, ← long, ← zero-add (length xs)) (sets_append l 0 xs ys) }

-- Bytes in place of as many in the middle are bytes written there.
pub placed : (at k : ℕ) (l ys : Bytes) → at + k ≤ length l → length ys ≡ k → Wrote l at ys (put_mid at k l ys)
placed at k l ys room long =
    let fits : at + length ys ≤ length l = omega arith in
    record {
      is =
          ap (λ x. take at l ++ (ys ++ x)) (drop-drop k at l ∙ ap (λ n. drop (at + n) l) (sym long))
          ∙ sym (append_assoc (take at l) ys (drop (at + length ys) l))
          ∙ sym (sets-eq ys l at fits);
    }

-- Bytes written at the front of the part that is lent from a place to the end are bytes written at that place.
pub lent : (at k : ℕ) (l ys m : Bytes) → at + k ≡ length l → length ys ≤ k → Wrote (mid_of at k l) 0 ys m
    → Wrote l at ys (put_mid at k l m)
lent at k l ys m all room part =
    let mid : mid_of at k l ≡ drop at l = take_all k (drop at l) (omega (arith, length-drop at l)) in
    let post : post_of at k l ≡ [] = drop_of_length-le (drop at l) {i = k} (omega (arith, length-drop at l)) in
    let fits : 0 + length ys ≤ length (drop at l) = omega (arith, length-drop at l) in
    let fits' : at + length ys ≤ length l = omega arith in
    let m_is : m ≡ ys ++ drop (length ys) (drop at l) =
    part.is ∙ ap (λ x. sets x 0 ys) mid ∙ sets-eq ys (drop at l) 0 fits
    ∙ ap (λ n. ys ++ drop n (drop at l)) (zero-add (length ys)) in
    record {
      is =
          ap (λ x. take at l ++ (m ++ x)) post
          ∙ ap (λ x. take at l ++ x) (append-nil m ∙ m_is)
          ∙ ap (λ x. take at l ++ (ys ++ x)) (drop-drop (length ys) at l)
          ∙ sym (append_assoc (take at l) ys (drop (at + length ys) l))
          ∙ sym (sets-eq ys l at fits');
    }

-- Bytes written into the part that begins where those at the front end make these longer.
pub rest_more : {l l' m xs ys : Bytes} (at : ℕ) → Wrote l 0 xs l' → length xs ≡ at → at + length ys ≤ length l'
    → Wrote (mid_of at (length l' - at) l') 0 ys m → Wrote l 0 (xs ++ ys) (put_mid at (length l' - at) l' m)
rest_more {l} {l'} {m} {xs} {ys} at front long room part =
    let all : at + (length l' - at) ≡ length l' = omega arith in
    let fits : length ys ≤ length l' - at = omega arith in
    more front (lent at (length l' - at) l' ys m all fits part) long

-- A record more, written into the part that begins where the last one ended.
pub record_more : (long n : ℕ) (f : ℕ → Bytes) (l l' m : Bytes) → ((k : ℕ) → length (f k) ≡ long)
    → Wrote l 0 (each n f) l' → long * n + long ≤ length l'
    → Wrote (mid_of (long * n) (length l' - long * n) l') 0 (f n) m
    → Wrote l 0 (each (n + 1) f) (put_mid (long * n) (length l' - long * n) l' m)
unfolding each
record_more long n f l l' m h front room part =
    rw (add-one n) (rest_more (long * n) front (each_length long n f h) (omega (arith, h n)) part)

-- Once the front is written and FF fills what is left, the space holds the front and FF.
pub filled : {l l' xs : Bytes} (end : ℕ) → Wrote l 0 xs l' → length xs ≡ end → end ≤ length l
    → take end l' ++ replicate (length l' - end) 0xFF ≡ xs ++ replicate (length l - end) 0xFF
filled {l} {l'} {xs} end front long room =
    let fits : 0 + length xs ≤ length l = omega arith in
    let same : length l' ≡ length l = rw front.is (length-sets l 0 xs) in
    let is : l' ≡ xs ++ drop (0 + length xs) l = front.is ∙ sets-eq xs l 0 fits in
    ap₂ (λ a n. a ++ replicate (n - end) 0xFF) (ap (take end) is ∙ take_at xs (drop (0 + length xs) l) end long) same
