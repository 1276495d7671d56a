-- Words put into a text one behind the other. Assumes nothing.
use Rattle.std.proofs.Common.{ℕ, suc, ◌+◌, ◌*◌, ◌≡◌, refl, ◌∙◌, List, [], ◌∷◌, ◌++◌}
use Rattle.std.proofs.Common.{mul-suc, add-suc, suc-add, add-zero, arith, length, length-append, set}
use Rattle.std.proofs.lemmas.List.Edits.{sets}
use Rattle.paper.specs.Bytes.{Bytes}
use Rattle.paper.specs.Line.{hex_of}
use Rattle.console.specs.Said.{Put}

-- A byte has two digits.
pub hex_long : (s : List ℕ) → length (hex_of s) ≡ 2 * length s
unfolding hex_of
hex_long [] = refl
hex_long (b ∷ s) = rw (hex_long s, mul-suc 2 (length s)) (omega arith)

-- Words put behind other words are put with them.
sets_more : (text : List ℕ) (at : ℕ) (a b : List ℕ) → sets (sets text at a) (at + length a) b ≡ sets text at (a ++ b)
sets_more text at [] b = rw (add-zero at)
sets_more text at (x ∷ a) b = rw (add-suc at (length a), ← suc-add at (length a)) (sets_more (set text at x) (suc at) a b)

-- The same of what is put.
pub put_more : {before between text a b : Bytes} {at middle end : ℕ} → Put before at a between middle → Put between middle b text end
    → Put before at (a ++ b) text end
put_more {before} {a = a} {b = b} {at = at} first then =
    record {
      stored = rw (first.stored, first.ends) at then.stored ∙ sets_more before at a b;
      ends = omega (arith, first.ends, then.ends, length-append a b);
    }
