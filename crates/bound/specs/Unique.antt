-- The working out of a task's bound has one outcome.
use Rattle.std.specs.Prelude.{ℕ, ◌≡◌, refl, Option, Some, None}
use Rattle.std.proofs.Common.{ap₂}
use Rattle.paper.specs.Windows.{Setting}
use Rattle.theory.specs.Task.Preemptive.{bounded_one}
use Rattle.bound.specs.declared.response.Worked.{Worked}
use Rattle.bound.specs.Answers.{Says}

-- No two outcomes meet the contract of the working out: two that do are one.
pub says_one : (k : Setting) (w w' : Option Worked) → Says k w → Says k w' → w ≡ w'
says_one k (Some w) (Some w') b b' =
    let e = bounded_one b b' in
    ap₂ (λ (R n : ℕ). Some (record { bound = record { 0 = R }; jobs = record { 0 = n } })) e.0 e.1
says_one k (Some w) None b none = absurd (none w.bound.0 w.jobs.0 b)
says_one k None (Some w') none b = absurd (none w'.bound.0 w'.jobs.0 b)
says_one k None None none none' = refl
