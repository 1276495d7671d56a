-- One task: its windows, the jobs to look at, its bound R+, and the limits.
use Rattle.std.specs.Prelude.{ℕ, ◌+◌, ◌-◌, ◌*◌, ◌≤◌, ◌<◌, ◌≡◌, Bool, cond, ◌&&◌, ltb, eqb}
use Rattle.paper.specs.Words.{IsLeast, IsLargest, sum}
use Rattle.paper.specs.Limits.{most_ticks, most_jobs}
use Rattle.paper.specs.Tables.{Plan}
use Rattle.paper.specs.Streams.{Stream, d, most_events, delayed}

-- What the equations of one task read: C- and C+, its input stream, and the interference that it meets in t ticks.
pub record Setting : Type 0 where
  pub C- : ℕ
  pub C+ : ℕ
  pub input : Stream
  pub interference : ℕ → ℕ

-- "Window for q jobs of task k: B(q) is the least t above 0 with t = q times k's C+, plus" the interference in t.
abbrev pub Window : Setting → ℕ → ℕ → Type 0
Window k q = IsLeast (λ t. (0 < t) × (t ≡ q * k.C+ + k.interference t))

-- "d(q+1) at least B(q)", where B(q) exists.
pub record Ends (k : Setting) (q : ℕ) : Type 0 where
  pub B : ℕ
  pub window : Window k q B
  pub apart : B ≤ d k.input (q + 1)

-- "Jobs to look at: the least q, at least 1, with d(q+1) at least B(q)."
abbrev pub Jobs : Setting → ℕ → Type 0
Jobs k = IsLeast (λ q. (1 ≤ q) × Ends k q)

-- B(q) - d(q) for some q from 1 to n.
pub record Delay (k : Setting) (n ticks : ℕ) : Type 0 where
  pub q : ℕ
  pub first : 1 ≤ q
  pub last : q ≤ n
  pub B : ℕ
  pub window : Window k q B
  pub is : ticks ≡ B - d k.input q

-- "R+ is the largest B(q) - d(q) over 1 to that q": R+ is R, and n jobs are looked at.
pub record Bound (k : Setting) (R n : ℕ) : Type 0 where
  pub jobs : Jobs k n
  pub largest : IsLargest (Delay k n) R

-- A task's output stream: "output period P, output jitter J + R+ - R-", and "R- = C-".
unfoldable pub output : (C- : ℕ) → Stream → (R : ℕ) → Stream
output C- M R = delayed M (R - C-)

-- "within limits when every input and output jitter and every B(q) looked at is at most 1,000,000,000 and every number of
-- jobs looked at is at most 1,024; a window or a number of jobs that doesn't exist is outside": the task, with bound R.
pub record Within (k : Setting) (R : ℕ) : Type 0 where
  pub input : k.input.J ≤ most_ticks
  pub outputs : (output k.C- k.input R).J ≤ most_ticks
  pub n : ℕ
  pub jobs : Jobs k n
  pub few : n ≤ most_jobs
  pub windows : (q : ℕ) → 1 ≤ q → q ≤ n → (B : ℕ) × Window k q B × (B ≤ most_ticks)

-- The task's bound is R and n jobs are looked at, all within limits.
pub record Bounded (k : Setting) (R n : ℕ) : Type 0 where
  pub bound : Bound k R n
  pub within : Within k R

-- Every task's input stream.
abbrev pub Inputs : Type 0
Inputs = ℕ → Stream

-- Whether task j is a more urgent task on task k's controller: a rival of k.
unfoldable pub rival : Plan → ℕ → ℕ → Bool
rival p k j = eqb (p.task j).controller (p.task k).controller && ltb (p.task j).priority (p.task k).priority

-- "over each more urgent task on the same controller, its most events in t times its C+".
unfoldable pub interference : Plan → Inputs → ℕ → ℕ → ℕ
interference p S k t = sum p.tasks (λ j. cond (rival p k j) (most_events (S j) t * (p.task j).C+) 0)

-- What the equations read of a plan's task k under input streams.
abbrev pub setting : Plan → Inputs → ℕ → Setting
setting p S k =
    record { C- = (p.task k).C-; C+ = (p.task k).C+; input = S k; interference = interference p S k }
