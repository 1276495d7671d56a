-- `unlinked` looks for a link of a path that the plan does not have.
use Rattle.std.proofs.Common.{◌+◌, ◌-◌, ◌≤◌, ◌≡◌, not, ◌&&◌, eqb, false, length, drop, get_or}
use Rattle.std.specs.Slice.Iter.{windows_size, windows_rest}
use Rattle.paper.specs.Words.{any}
use Rattle.rules.specs.Rows.{fed_in, feeder_in}
use Rattle.rules.proofs.faults.unlinked.Given as goal

-- The loop's invariant: the end of the path from task i on is left, and the plan has the links before that task.
abbrev pub invariant-loop-pair : goal.invariant-loop-pair
invariant-loop-pair l =
    let rest = windows_rest l.pair-iterator in
    let i = length l.path - length rest in
    record {
      pairs : windows_size l.pair-iterator ≡ 2;
      shorter : length rest ≤ length l.path;
      end : rest ≡ drop i l.path;
      within : i ≤ length l.path - 1;
      held : any i
          (λ j. not (fed_in l.tasks (get_or l.path (j + 1) 0) && eqb (feeder_in l.tasks (get_or l.path (j + 1) 0)) (get_or l.path j 0)))
          ≡ false;
    }
