-- "The report", read back: where each number of it stands, and what the bytes of a plan's report say.
use Rattle.std.specs.Prelude.{ℕ, ◌+◌, ◌*◌, ◌<◌, ◌≡◌}
use Rattle.paper.specs.Bytes.{Bytes, number, Signed}
use Rattle.paper.specs.Fields.{tag_at, length_at}
use Rattle.paper.specs.Tables.{Plan}
use Rattle.paper.specs.Windows.{output}
use Rattle.paper.specs.Sets.{inputs}
use Rattle.paper.specs.Report.{head_bytes, task_bytes, path_bytes, Figures, verdict, best, worst}

-- What bytes say of the whole: the edition,
abbrev pub edition_in : Bytes → ℕ
edition_in out = number out 3 1

-- the sweeps,
abbrev pub sweeps_in : Bytes → ℕ
sweeps_in out = number out 4 8

-- how many tasks
abbrev pub tasks_in : Bytes → ℕ
tasks_in out = number out 12 1

-- and how many paths.
abbrev pub paths_in : Bytes → ℕ
paths_in out = number out 13 1

-- Where task k's record begins: past the head and the records of the tasks before it.
abbrev pub task_from : ℕ → ℕ
task_from k = head_bytes + task_bytes * k

-- What bytes say of task k: its own number,
abbrev pub task_in : Bytes → ℕ → ℕ
task_in out k = number out (task_from k + 3) 1

-- its R-,
abbrev pub R-_in : Bytes → ℕ → ℕ
R-_in out k = number out (task_from k + 4) 4

-- its R+,
abbrev pub R+_in : Bytes → ℕ → ℕ
R+_in out k = number out (task_from k + 8) 4

-- its input jitter,
abbrev pub input_in : Bytes → ℕ → ℕ
input_in out k = number out (task_from k + 12) 4

-- its output jitter
abbrev pub output_in : Bytes → ℕ → ℕ
output_in out k = number out (task_from k + 16) 4

-- and its jobs looked at.
abbrev pub jobs_in : Bytes → ℕ → ℕ
jobs_in out k = number out (task_from k + 20) 2

-- Where path q's record begins: past the head, the records of all tasks and those of the paths before it.
abbrev pub path_from : (tasks q : ℕ) → ℕ
path_from tasks q = head_bytes + task_bytes * tasks + path_bytes * q

-- What bytes say of path q, behind so many tasks: its own number,
abbrev pub path_in : Bytes → (tasks q : ℕ) → ℕ
path_in out tasks q = number out (path_from tasks q + 3) 1

-- its verdict,
abbrev pub verdict_in : Bytes → (tasks q : ℕ) → ℕ
verdict_in out tasks q = number out (path_from tasks q + 4) 1

-- its best time,
abbrev pub best_in : Bytes → (tasks q : ℕ) → ℕ
best_in out tasks q = number out (path_from tasks q + 5) 8

-- its worst
abbrev pub worst_in : Bytes → (tasks q : ℕ) → ℕ
worst_in out tasks q = number out (path_from tasks q + 13) 8

-- and its slack, in two's complement.
abbrev pub slack_in : Bytes → (tasks q : ℕ) → ℕ
slack_in out tasks q = number out (path_from tasks q + 21) 8

-- The bytes `out` begin with the report of a plan and its figures: what stands in them, byte for byte, is theirs.
pub record Stands (p : Plan) (f : Figures) (out : Bytes) : Type 0 where
  -- "81, 11: edition 1; sweeps (8 bytes); tasks; paths"
  pub head : (tag_at out 0 ≡ 0x81) × (length_at out 0 ≡ 11)
  pub edition : edition_in out ≡ 1
  pub sweeps : sweeps_in out ≡ f.sweeps
  pub tasks : tasks_in out ≡ p.tasks
  pub paths : paths_in out ≡ p.paths
  -- "90, 19: task; R-, R+, input jitter, output jitter (4 bytes each); jobs looked at (2)"
  pub task_heads : (k : ℕ) → k < p.tasks → (tag_at out (task_from k) ≡ 0x90) × (length_at out (task_from k) ≡ 19)
  pub task_own : (k : ℕ) → k < p.tasks → task_in out k ≡ k
  pub R- : (k : ℕ) → k < p.tasks → R-_in out k ≡ (p.task k).C-
  pub R+ : (k : ℕ) → k < p.tasks → R+_in out k ≡ f.R k
  pub input : (k : ℕ) → k < p.tasks → input_in out k ≡ (inputs p f.R k).J
  pub outputs : (k : ℕ) → k < p.tasks
      → output_in out k ≡ (output (p.task k).C- (inputs p f.R k) (f.R k)).J
  pub jobs : (k : ℕ) → k < p.tasks → jobs_in out k ≡ f.jobs k
  -- "A0, 26: path; verdict; best, worst, slack (8 bytes each)"
  pub path_heads : (q : ℕ) → q < p.paths
      → (tag_at out (path_from p.tasks q) ≡ 0xA0) × (length_at out (path_from p.tasks q) ≡ 26)
  pub path_own : (q : ℕ) → q < p.paths → path_in out p.tasks q ≡ q
  pub verdicts : (q : ℕ) → q < p.paths
      → verdict_in out p.tasks q ≡ verdict (p.deadline q) (worst p f.R q)
  pub bests : (q : ℕ) → q < p.paths → best_in out p.tasks q ≡ best p q
  pub worsts : (q : ℕ) → q < p.paths → worst_in out p.tasks q ≡ worst p f.R q
  pub slacks : (q : ℕ) → q < p.paths → Signed 8 (slack_in out p.tasks q) (p.deadline q) (worst p f.R q)
