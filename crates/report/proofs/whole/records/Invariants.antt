-- The loop of `whole::records`.
use Rattle.std.proofs.Common.{◌≡◌, length, get_or}
use Rattle.paper.specs.Report.{each}
use Rattle.report.specs.Wrote.{Wrote}
use Rattle.report.proofs.whole.records.Given as goal

-- The part keeps its length, and the records before k are written.
abbrev pub invariant-loop-k : goal.invariant-loop-k
invariant-loop-k g l =
    (length l.rest ≡ length l.initial.rest)
    × ((none : _) → Wrote l.initial.rest 0 (each l.k (λ k. g.R.Record.record_of (get_or l.rows k none) k)) l.rest)
