-- `number_at` takes a byte more each time.
use Rattle.std.proofs.Common.{◌<◌, ◌^◌, ◌≡◌}
use Rattle.paper.specs.Bytes.{number}
use Rattle.plan.proofs.bytes.number_at.Given as goal

-- The loop's invariant: n is the number in the first i bytes, and fits them.
abbrev pub invariant-loop-i : goal.invariant-loop-i
invariant-loop-i g l = record { is : l.n ≡ number l.s l.at l.i; fits : l.n < 256 ^ l.i }
