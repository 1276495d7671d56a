-- The loop of `write`.
use Rattle.std.proofs.Common.{◌≡◌, ◌*◌, length, drop}
use Rattle.std.proofs.lemmas.List.Edits.{sets}
use Rattle.paper.specs.Line.{hex_of}
use Rattle.hexadecimal.proofs.write.Given as goal

-- The text keeps its length, and the digits of the bytes from i on make of it what those of all bytes make of the first
-- text.
abbrev pub invariant-loop-i : goal.invariant-loop-i
invariant-loop-i l =
    (length l.text ≡ length l.initial.text)
    × (sets l.text (2 * l.i) (hex_of (drop l.i l.bytes)) ≡ sets l.initial.text 0 (hex_of l.bytes))
