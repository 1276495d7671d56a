-- `numbers::put` writes a number's bytes, the last of those that the library makes of it.
use Rattle.std.proofs.Common.{◌≡◌, ◌+◌, ◌-◌, ◌∙◌, ap, arith, take, drop, take_all, length-drop}
use Rattle.std.specs.Int.{bytes_high_first}
use Rattle.paper.specs.Bytes.{bytes}
use Rattle.theory.specs.Bytes.{bytes_length}
use Rattle.report.proofs.Bytes.{last_bytes}
use Rattle.report.proofs.Laws.{placed}
use Rattle.report.proofs.numbers.put.Goals as goal

-- The part holds them, and what is left of the space stayed as it was.
pub returns : goal.returns
returns g c =
    let a = c.args in
    let w = g.row.WIDTH in
    let wide : a.at + w - a.at ≡ w = omega arith in
    let s = bytes_high_first 8 a.number in
    let part : c.copy_from_slice.new.self ≡ bytes w a.number =
    c.copy_from_slice.ensures.after
    ∙ ap (λ t. take (8 - (8 - w)) (drop (8 - w) t)) c.to_be_bytes.ensures
    ∙ take_all (8 - (8 - w)) (drop (8 - w) s) (omega (arith, length-drop (8 - w) s))
    ∙ last_bytes 8 w a.number (omega arith) in
    rw (wide, part) (placed a.at w a.out.now (bytes w a.number) (omega arith) (bytes_length w a.number))
