-- The number of a verdict.
use Rattle.std.specs.Prelude.{ℕ}
use Rattle.report.specs.declared.figures.Verdict.{Verdict}
use Rattle.report.specs.declared.figures.Verdict.TheVariants.{Meets, Misses}

-- A path that meets its deadline has 1, one that misses it 2.
abbrev pub number_of : Verdict → ℕ
number_of Meets = 1
number_of Misses = 2
