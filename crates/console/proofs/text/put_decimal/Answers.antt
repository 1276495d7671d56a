-- `put_decimal` puts the digits that the library makes of a number.
use Rattle.std.proofs.Common.{arith, ◌∙◌}
use Rattle.console.proofs.Decimal.{same_decimal, few_digits}
use Rattle.console.proofs.text.put_decimal.Goals as goal

-- They are document 01's, at most 20 of them.
pub returns : goal.returns
returns c =
    let d = c.decimal-count in
    let few = few_digits _ d.result c.ranges.n.fits d.ensures.len in
    let same = d.ensures.digits ∙ same_decimal c.args.n d.result d.ensures.len in
    (rw same at c.put.ensures, omega (arith, c.put.ensures.ends, d.ensures.in_bounds, few))
