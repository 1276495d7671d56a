-- `Fraction::add` adds cost/period: there is room for both products.
use Rattle.std.proofs.Common.{add-one, arith}
use Rattle.load.proofs.Room.{num_room, den_room, one_more}
use Rattle.load.proofs.fraction.Fraction.add.Goals as goal

-- There is room for num·period + den·cost.
pub mul_add-requires : goal.mul_add-requires
mul_add-requires c = rw add-one (num_room c.args.self.now.few_limbs c.requires)

-- There is room for den·period.
pub mul_add-requires-2 : goal.mul_add-requires-2
mul_add-requires-2 c =
    rw add-one
    (den_room c.args.self.now.few_limbs c.requires (omega (arith, c.requires.factors)) (rw add-one at c.mul_add.ensures))

-- The sum is one of one task more.
pub invariant_of-self : goal.invariant_of-self
invariant_of-self c =
    record {
      few_limbs = rw add-one
          (one_more c.args.self.now.few_limbs c.requires (rw add-one at c.mul_add.ensures) (rw add-one at c.mul_add-2.ensures));
    }
