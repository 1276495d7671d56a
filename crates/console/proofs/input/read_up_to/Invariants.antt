-- `read_up_to` has put so many bytes at the front of the space, and asks for fewer each time.
use Rattle.std.proofs.Common.{length, ◌-◌, ◌≤◌}
use Rattle.console.proofs.input.read_up_to.Given as goal

-- The loop's invariant: no more bytes came than there is space for.
abbrev pub invariant-loop-bytes : goal.invariant-loop-bytes
invariant-loop-bytes g l = l.bytes ≤ length l.space

-- What falls with each turn: the bytes that there is still space for.
abbrev pub decreases-loop-bytes : goal.decreases-loop-bytes
decreases-loop-bytes g l = length l.initial.space - l.bytes
