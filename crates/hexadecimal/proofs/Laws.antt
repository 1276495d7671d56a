-- A byte's two digits stored, and then those of the bytes behind it. Assumes nothing.
use Rattle.std.proofs.Common.{ℕ, ◌+◌, ◌*◌, ◌<◌, ◌/◌, ◌%◌, ◌≡◌, List, mul-suc, add-one, length, get_or, drop, set, drop-cons}
use Rattle.std.proofs.Math.Numerals.{add-two}
use Rattle.std.proofs.lemmas.List.Edits.{sets}
use Rattle.paper.specs.Line.{digit_of, hex_of}

-- Storing the digits of byte i, and then those of the bytes behind it, is storing those of the bytes from i on.
pub byte_more : (bytes text : List ℕ) (i : ℕ) → i < length bytes
    → sets (set (set text (2 * i) (digit_of (get_or bytes i 0 / 16))) (2 * i + 1) (digit_of (get_or bytes i 0 % 16)))
    (2 * (i + 1)) (hex_of (drop (i + 1) bytes))
    ≡ sets text (2 * i) (hex_of (drop i bytes))
unfolding hex_of
byte_more bytes text i h = rw (drop-cons bytes i 0 h, add-one i, mul-suc 2 i, add-two (2 * i), add-one (2 * i))
