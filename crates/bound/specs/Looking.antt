-- The look at a task's jobs, one after the other: what has been seen, and that it is over.
use Rattle.std.specs.Prelude.{ℕ, ◌≤◌, ◌<◌}
use Rattle.paper.specs.Limits.{most_ticks, most_jobs}
use Rattle.paper.specs.Windows.{Setting, Window, Jobs, Delay}
use Rattle.theory.specs.Numbers.Ranges.{Every}

-- n jobs have been looked at: their windows are within limits, and R is the largest B(q) - d(q), or 0 before the first job.
pub record Seen (k : Setting) (n R : ℕ) : Type 0 where
  pub windows : Every n (λ q. (B : ℕ) × Window k q B × (B ≤ most_ticks))
  pub covers : (ticks : ℕ) → Delay k n ticks → ticks ≤ R
  pub met : 0 < R → Delay k n R

-- The look is over: the jobs to look at have been looked at, n of them, as many as the limit or fewer.
pub record Over (k : Setting) (n R : ℕ) : Type 0 where
  pub seen : Seen k n R
  pub jobs : Jobs k n
  pub few : n ≤ most_jobs
