-- `read` judges a plan field by field.
use Rattle.std.proofs.Common.{◌≡◌}
use Rattle.paper.specs.Fields.{passed, fields}
use Rattle.plan.specs.Places.{Begins}
use Rattle.plan.proofs.reading.read.Given as goal

-- The loop's invariant: the first f fields pass, and the next one begins at the place.
abbrev pub invariant-loop-f : goal.invariant-loop-f
invariant-loop-f l = record { begins : Begins l.s l.f l.at; passes : fields l.s l.f ≡ passed }
