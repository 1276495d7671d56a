-- Laws of numbers in bytes: how long they are, where they are read, and that they are read back as they were written.
use Rattle.std.specs.Prelude.{ℕ, zero, suc, ◌+◌, ◌-◌, ◌*◌, ◌/◌, ◌%◌, ◌^◌, ◌≤◌, ◌<◌, ◌≡◌, refl, [], ◌∷◌, ◌++◌, length, get_or}
use Rattle.std.proofs.Common.{sym, ap, ◌∙◌, length-append, get_or-append-add, zero-add, add_assoc, add_comm, pow-suc, div-lt_iff_lt-mul, div-add-mod', arith}
use Rattle.std.proofs.Math.ListN.{get_or-append}
use Rattle.std.proofs.Math.Seq.{get_or-append_seam}
use Rattle.std.proofs.Math.Nat.{pow-succ', add-mul-div_left, add-mul-mod_self_left}
use Rattle.std.proofs.Math.Decide.{dec_le}
use Rattle.paper.specs.Bytes.{Bytes, number, bytes, difference, Signed, positive, negative}

-- A number takes its width.
pub bytes_length : (width n : ℕ) → length (bytes width n) ≡ width
unfolding bytes
bytes_length zero n = refl
bytes_length (suc width) n = simp (length-append, bytes_length width) (omega arith)

-- What does not fit `width` bytes is left out.
pub bytes_over : (width n : ℕ) → bytes width (256 ^ width + n) ≡ bytes width n
unfolding bytes
bytes_over zero n = refl
bytes_over (suc width) n =
    let e : 256 ^ suc width + n ≡ n + 256 * 256 ^ width = omega (arith, pow-succ' 256 width) in
    let some : 0 < 256 = omega arith in
    rw (e, add-mul-div_left n (256 ^ width), add-mul-mod_self_left n 256 (256 ^ width), add_comm (n / 256))
    (ap (λ front. front ++ (n % 256 ∷ [])) (bytes_over width (n / 256)))

-- A number inside the first of two strings is that string's.
pub number_front : (a b : Bytes) (at width : ℕ) → at + width ≤ length a → number (a ++ b) at width ≡ number a at width
unfolding number
number_front a b at zero h = refl
number_front a b at (suc width) h =
    let inside : at + width < length a = omega arith in
    rw (number_front a b at width (omega arith), get_or-append a b 0 (at + width) inside)

-- A number past the first of two strings is the other's.
pub number_behind : (a b : Bytes) (at width : ℕ) → number (a ++ b) (length a + at) width ≡ number b at width
unfolding number
number_behind a b at zero = refl
number_behind a b at (suc width) =
    rw (number_behind a b at width, add_assoc (length a) at width, get_or-append-add a b (at + width) 0)

-- A number that fits its width is read back as it was written.
pub number_bytes : (width n : ℕ) → n < 256 ^ width → number (bytes width n) 0 width ≡ n
unfolding number bytes
number_bytes zero n h = omega arith
number_bytes (suc width) n h =
    let front = bytes width (n / 256) in
    let long : length front ≡ width = bytes_length width (n / 256) in
    let some : 0 < 256 = omega arith in
    let less : n / 256 < 256 ^ width = (div-lt_iff_lt-mul some).1 (rw (← pow-suc 256 width) h) in
    let high : number (front ++ n % 256 ∷ []) 0 width ≡ n / 256 =
    number_front front (n % 256 ∷ []) 0 width (omega arith) ∙ number_bytes width (n / 256) less in
    let low : get_or (front ++ n % 256 ∷ []) (0 + width) 0 ≡ n % 256 =
    ap (λ i. get_or (front ++ n % 256 ∷ []) i 0) (zero-add width ∙ sym long) ∙ get_or-append_seam front (n % 256) [] 0 in
    rw (high, low) (div-add-mod' n 256)

-- A difference is written in two's complement: it is read back, as signed, as it was, where it is small enough for its width.
pub difference_signed : (width a b : ℕ) → 2 * (a - b) < 256 ^ width → 2 * (b - a) ≤ 256 ^ width
    → Signed width (number (difference width a b) 0 width) a b
unfolding difference
difference_signed width a b above below =
    elim (dec_le b a) [
      | yes l ↦
          let over : bytes width (256 ^ width + a - b) ≡ bytes width (a - b) =
          ap (bytes width) (omega arith) ∙ bytes_over width (a - b) in
          let is : number (bytes width (256 ^ width + a - b)) 0 width ≡ a - b =
          ap (λ s. number s 0 width) over ∙ number_bytes width (a - b) (omega arith) in
          positive (rw is above) (omega (arith, is))
      | no l ↦
          let is : number (bytes width (256 ^ width + a - b)) 0 width ≡ 256 ^ width + a - b =
          number_bytes width (256 ^ width + a - b) (omega arith) in
          negative (omega (arith, is)) (omega (arith, is))
    ]
