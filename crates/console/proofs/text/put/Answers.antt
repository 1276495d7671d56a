-- `put` copies the bytes over a part of the text.
use Rattle.std.proofs.Common.{arith, length, ◌-◌, ◌+◌, ◌≡◌, ◌∙◌, sym, refl}
use Rattle.std.proofs.lemmas.List.{append_assoc, drop-drop}
use Rattle.std.proofs.lemmas.List.Edits.{sets-eq}
use Rattle.console.proofs.text.put.Goals as goal

-- What is copied over a part of the text is stored there.
pub returns : goal.returns
returns c =
    let bytes = c.args.bytes.now in
    let text = c.args.text.now in
    let at = c.args.at in
    let size : at + length bytes - at ≡ length bytes = omega arith in
    let copied = sym (append_assoc _ bytes _) ∙ sym (sets-eq bytes text at c.requires) in
    record { stored = rw (c.copy_from_slice.ensures.after, size, drop-drop (length bytes) at text) copied; ends = refl }
