-- The report's length: "14 + 22 for each task + 29 for each path".
use Rattle.std.specs.Prelude.{ℕ, zero, suc, ◌+◌, ◌*◌, ◌≡◌, length}
use Rattle.std.proofs.Common.{length-append, arith}
use Rattle.paper.specs.Bytes.{Bytes, difference}
use Rattle.paper.specs.Tables.{Plan}
use Rattle.paper.specs.Report.{Figures, record_of, head_record, task_record, path_record}
use Rattle.paper.specs.Report.{task_report, path_report, each, report, report_length}
use Rattle.theory.specs.Bytes.{bytes_length}

-- A record has three bytes before its value.
record_length : (tag : ℕ) (value : Bytes) → length (record_of tag value) ≡ 3 + length value
unfolding record_of
record_length tag value = simp (length-append, bytes_length) (omega arith)

-- Records of one length, one after the other.
pub each_length : (c n : ℕ) (f : ℕ → Bytes) → ((k : ℕ) → length (f k) ≡ c) → length (each n f) ≡ c * n
unfolding each
each_length c zero f same = omega arith
each_length c (suc n) f same = simp length-append (omega (arith, each_length c n f same, same n))

-- The head is 14 bytes long,
pub head_length : (sweeps tasks paths : ℕ) → length (head_record sweeps tasks paths) ≡ 14
unfolding head_record
head_length sweeps tasks paths = simp (record_length, length-append, bytes_length)

-- a task's record 22,
pub task_length : (p : Plan) (f : Figures) (k : ℕ) → length (task_report p f k) ≡ 22
unfolding task_report task_record
task_length p f k = simp (record_length, length-append, bytes_length)

-- a path's 29,
pub path_length : (p : Plan) (f : Figures) (q : ℕ) → length (path_report p f q) ≡ 29
unfolding path_report path_record difference
path_length p f q = simp (record_length, length-append, bytes_length)

-- and the whole report as long as document 01 says.
pub length_report : (p : Plan) (f : Figures) → length (report p f) ≡ report_length p
unfolding report report_length head_record
length_report p f =
    simp (length-append, record_length, bytes_length)
    (omega (
      arith,
      each_length 22 p.tasks (task_report p f) (task_length p f),
      each_length 29 p.paths (path_report p f) (path_length p f),
    ))
