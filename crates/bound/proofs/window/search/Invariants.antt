-- What the loop of `search` keeps: it has come to t, and no window is shorter than t.
use Rattle.std.proofs.Common.{◌+◌, ◌-◌}
use Rattle.paper.specs.Limits.{most_ticks}
use Rattle.theory.specs.Numbers.FixedPoints.{Reached}
use Rattle.bound.specs.Setting.{demand_of}
use Rattle.bound.proofs.window.search.Given as goal

-- The search has come to t.
abbrev pub invariant-loop-t : goal.invariant-loop-t
invariant-loop-t l = Reached (demand_of l.rivals.all.now l.work.0) l.t.0

-- What is left to the limit.
abbrev pub decreases-loop-t : goal.decreases-loop-t
decreases-loop-t l = most_ticks + 1 - l.t.0
