-- What the code's answers say, in the words of document 01.
use Rattle.std.specs.Prelude.{ℕ, ◌≤◌, ◌<◌, Option, Some, None}
use Rattle.paper.specs.Limits.{most_ticks}
use Rattle.paper.specs.Windows.{Setting, Bounded}
use Rattle.theory.specs.Numbers.FixedPoints.{LeastFixed}
use Rattle.stream.specs.declared.kinds.Ticks.{Ticks}
use Rattle.bound.specs.declared.response.Worked.{Worked}
use Rattle.bound.specs.Looking.{Over}

-- The task leaves the limits: it has no bound within them, with any number of jobs looked at.
abbrev pub Outside : Setting → Type 0
Outside k = (R n : ℕ) → Bounded k R n → ⊥

-- Of the search for the window that a demand gives: it is there and within limits, or there is none within limits.
abbrev pub Finds : (ℕ → ℕ) → Option Ticks → Type 0
Finds F (Some b) = LeastFixed F b.0 × (b.0 ≤ most_ticks)
Finds F None = (b : ℕ) → LeastFixed F b → most_ticks < b

-- Of the look at a task's jobs: it is over, or the task leaves the limits.
abbrev pub Comes : Setting → Option Worked → Type 0
Comes k (Some w) = Over k w.jobs.0 w.bound.0
Comes k None = Outside k

-- Of the working out of a task's bound: R+ and the jobs looked at, all within limits, or the task leaves the limits.
abbrev pub Says : Setting → Option Worked → Type 0
Says k (Some w) = Bounded k w.bound.0 w.jobs.0
Says k None = Outside k
