-- "The report": its records and the whole of it.
use Rattle.std.specs.Prelude.{ℕ, zero, suc, ◌+◌, ◌*◌, List, [], ◌∷◌, ◌++◌, cond, leb, length}
use Rattle.paper.specs.Limits.{most_tasks, most_paths}
use Rattle.paper.specs.Bytes.{Bytes, bytes, difference}
use Rattle.paper.specs.Tables.{Plan}
use Rattle.paper.specs.Windows.{output}
use Rattle.paper.specs.Sets.{Bounds, inputs}

-- How many bytes the head is long,
abbrev pub head_bytes : ℕ
head_bytes = 14

-- a task's record
abbrev pub task_bytes : ℕ
task_bytes = 22

-- and a path's.
abbrev pub path_bytes : ℕ
path_bytes = 29

-- The figures of a report: the sweeps, each task's R+ and the number of its jobs looked at.
pub record Figures : Type 0 where
  pub sweeps : ℕ
  pub R : Bounds
  pub jobs : ℕ → ℕ

-- A record: its tag, the length of its value in two bytes, its value.
unfoldable pub record_of : ℕ → Bytes → Bytes
record_of tag value = tag ∷ bytes 2 (length value) ++ value

-- "81, 11: edition 1; sweeps (8 bytes); tasks; paths"
unfoldable pub head_record : (sweeps tasks paths : ℕ) → Bytes
head_record sweeps tasks paths = record_of 0x81 (bytes 1 1 ++ bytes 8 sweeps ++ bytes 1 tasks ++ bytes 1 paths)

-- "90, 19: task; R-, R+, input jitter, output jitter (4 bytes each); jobs looked at (2)"
unfoldable pub task_record : (task R- R+ input output jobs : ℕ) → Bytes
task_record task R- R+ input output jobs =
    record_of 0x90 (bytes 1 task ++ bytes 4 R- ++ bytes 4 R+ ++ bytes 4 input ++ bytes 4 output ++ bytes 2 jobs)

-- "Verdict is 1 (meets: slack 0 or more) or 2 (misses)."
unfoldable pub verdict : (deadline worst : ℕ) → ℕ
verdict deadline worst = cond (leb worst deadline) 1 2

-- "A0, 26: path; verdict; best, worst, slack (8 bytes each)"; "The slack is deadline minus worst".
unfoldable pub path_record : (path deadline best worst : ℕ) → Bytes
path_record path deadline best worst =
    record_of 0xA0
    (bytes 1 path
    ++ bytes 1 (verdict deadline worst)
    ++ bytes 8 best
    ++ bytes 8 worst
    ++ difference 8 deadline worst)

-- The sum of f over the tasks of a path.
unfoldable pub along : List ℕ → (ℕ → ℕ) → ℕ
along [] f = 0
along (k ∷ path) f = f k + along path f

-- "Best and worst are the sums of R- and R+ along the path."
abbrev pub best : Plan → ℕ → ℕ
best p q = along (p.path q) (λ k. (p.task k).C-)

-- The worst time along a path.
abbrev pub worst : Plan → Bounds → ℕ → ℕ
worst p R q = along (p.path q) R

-- The record of a plan's task k with its figures.
unfoldable pub task_report : Plan → Figures → ℕ → Bytes
task_report p f k =
    task_record k
    (p.task k).C-
    (f.R k)
    (inputs p f.R k).J
    (output (p.task k).C- (inputs p f.R k) (f.R k)).J
    (f.jobs k)

-- The record of a plan's path q with its figures.
unfoldable pub path_report : Plan → Figures → ℕ → Bytes
path_report p f q = path_record q (p.deadline q) (best p q) (worst p f.R q)

-- The records of the numbers below n, one after the other.
unfoldable pub each : ℕ → (ℕ → Bytes) → Bytes
each zero f = []
each (suc n) f = each n f ++ f n

-- The whole report: head, task records, path records.
unfoldable pub report : Plan → Figures → Bytes
report p f =
    head_record f.sweeps p.tasks p.paths ++ each p.tasks (task_report p f) ++ each p.paths (path_report p f)

-- "Length is 14 + 22 for each task + 29 for each path."
unfoldable pub report_length : Plan → ℕ
report_length p = head_bytes + task_bytes * p.tasks + path_bytes * p.paths

-- "The program has room for any report."
abbrev pub report_bytes : ℕ
report_bytes = head_bytes + task_bytes * most_tasks + path_bytes * most_paths
