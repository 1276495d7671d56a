-- `first` asks a judge at the numbers in their order.
use Rattle.std.proofs.Common.{ℕ, ◌≡◌, Bool}
use Rattle.paper.specs.Fields.{passed}
use Rattle.rules.specs.Faults.{lowest, RefusesBy}
use Rattle.rules.proofs.refusals.first.Given as goal

-- The loop's invariant: by whatever test the judge refuses, it finds nothing wrong below k.
abbrev pub invariant-loop-k : goal.invariant-loop-k
invariant-loop-k g l =
    (refusal : ℕ) (wrong : ℕ → Bool) → RefusesBy refusal wrong l.n (goal.F-post g l.judge) → lowest refusal wrong l.k ≡ passed
