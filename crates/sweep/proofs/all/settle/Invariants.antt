-- What the loop of `settle` keeps: after the sweeps done, each of which changed something, the set is reached.
use Rattle.std.proofs.Common.{◌*◌, ◌-◌, length}
use Rattle.paper.specs.Limits.{most_ticks}
use Rattle.paper.specs.Tables.{Plan}
use Rattle.sweep.specs.Planned.{Planned}
use Rattle.sweep.proofs.Turn.{SoFar}
use Rattle.sweep.proofs.all.settle.Given as goal

-- What each sweep leaves in the list of figures is read in that turn alone.
abbrev pub invariant-loop-left : goal.invariant-loop-left
invariant-loop-left l =
    (p : Plan) → Planned p l.tasks → SoFar p l.tasks l.set.items l.sweeps

-- What the bounds can still grow by.
abbrev pub decreases-loop-left : goal.decreases-loop-left
decreases-loop-left l = length l.tasks * most_ticks - l.sweeps
