-- `Walker::values` judges values of one byte, one after the other.
use Rattle.std.proofs.Common.{◌+◌, ◌≡◌, replicate}
use Rattle.paper.specs.Fields.{passed, in_ranges, byte}
use Rattle.plan.proofs.walker.Walker.values.Given as goal

-- The loop's invariant: the first i values pass.
abbrev pub invariant-loop-i : goal.invariant-loop-i
invariant-loop-i l = in_ranges l.self.plan.now (l.self.at + l.behind) (replicate l.i (byte 0 l.most)) ≡ passed
