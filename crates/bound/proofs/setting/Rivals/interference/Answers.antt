-- `interference` gives the interference of the rivals in t ticks.
use Rattle.std.proofs.Common.{◌<◌, ◌^◌, arith, rules}
use Rattle.std.specs.List.{sum_by}
use Rattle.bound.specs.Setting.{work_of, interference_of}
use Rattle.bound.proofs.Interference.{interference_fits}
use Rattle.bound.proofs.setting.Rivals.interference.Goals as goal

-- The sum of the rivals' work fits.
pub sum-requires-clause-fits : goal.sum-requires-clause-fits
unfolding interference_of
sum-requires-clause-fits c =
    let small : sum_by (work_of c.args.t.0) c.args.self.all.now < 2 ^ 64 =
    omega (arith, interference_fits c.args.t.0 c.requires c.args.self.all.now c.args.self.few) in
    search rules

-- It is the interference.
pub returns : goal.returns
unfolding interference_of
returns c = search rules
