-- The loop of `limbs::mul_add`.
use Rattle.load.proofs.limbs.Carry.{Reached}
use Rattle.load.proofs.limbs.mul_add.Given as goal

-- The limbs before i hold a·m + b·c with the carry.
abbrev pub invariant-loop-i : goal.invariant-loop-i
invariant-loop-i l = Reached l.initial.a l.m l.b l.c l.a l.carry l.i
