-- `write` writes the digits of the bytes at the front of a text.
use Rattle.std.proofs.Common.{◌≡◌, ◌<◌, ◌∙◌, length, length-set, arith}
use Rattle.std.proofs.Math.Seq.{drop-length}
use Rattle.paper.specs.Line.{hex_of}
use Rattle.hexadecimal.proofs.Laws.{byte_more}
use Rattle.hexadecimal.proofs.write.Goals as goal

-- The digits of byte i are stored, and those of the bytes behind it are left.
pub loop-i-preserved : goal.loop-i-preserved
loop-i-preserved c =
    let l = c.loop-i in
    let bytes = c.args.bytes.now in
    let h : l.i < length bytes = c.loop-i-test.true in (
      simp length-set l.invariant.0,
      rw (c.digit.ensures, c.digit-in-loop-i.ensures) (byte_more bytes l.text l.i h ∙ l.invariant.1),
    )

-- At the end no bytes are left.
pub returns : goal.returns
unfolding hex_of
returns c =
    let bytes = c.args.bytes.now in
    let done : c.loop-i.i ≡ length bytes = omega arith in
    rw (done, drop-length bytes) at c.loop-i.invariant.1
