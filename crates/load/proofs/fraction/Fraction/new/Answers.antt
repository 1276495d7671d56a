-- `Fraction::new` is 0/1.
use Rattle.load.proofs.Room.{none, one, start}
use Rattle.load.proofs.fraction.Fraction.new.Goals as goal

-- 0/1 is the sum of none.
pub invariant_of-result : goal.invariant_of-result
invariant_of-result c = record { few_limbs = start }

-- The numerator is 0,
pub returns-clause-num : goal.returns-clause-num
returns-clause-num c = none

-- and the denominator 1.
pub returns-clause-den : goal.returns-clause-den
returns-clause-den c = one
