-- `limbs::mul_add` puts a·m + b·c into a, with a carry from limb to limb.
use Rattle.std.proofs.Common.{◌≡◌, arith, add-one}
use Rattle.load.proofs.limbs.Carry.{start, further, finish}
use Rattle.load.proofs.limbs.mul_add.Goals as goal

-- Before limb 0 nothing is done.
pub loop-i-init : goal.loop-i-init
loop-i-init c = start c.requires.a_used.limbs

-- A limb takes up the carry, and the next carry is what it cannot hold.
pub loop-i-preserved : goal.loop-i-preserved
loop-i-preserved c =
    rw (add-one c.loop-i.i) (further (omega arith) c.requires.factors c.requires.b_used.limbs c.loop-i.invariant)

-- After limb n the room that there is leaves no carry.
pub returns : goal.returns
returns c =
    let done : c.loop-i.i ≡ c.args.n = omega arith in
    finish c.requires (rw done at c.loop-i.invariant)
