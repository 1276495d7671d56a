-- What a report holds can be read off its bytes, where document 01's "The report" puts it.
use Prim.Native.Nat.{ℕ, zero, suc, ◌+◌, ◌-◌, ◌*◌, ◌^◌, ◌≤◌, ◌<◌}
use Rattle.std.specs.Prelude.{◌≡◌, ◌++◌}
use Rattle.std.proofs.Common.{sym, ◌∙◌, add-zero, add_assoc, mul-le-mul_left, arith}
use Rattle.std.proofs.Math.Path.{ap, ap₂}
use Rattle.std.proofs.Math.ListN.{length, length-append}
use Rattle.std.proofs.Math.Decide.{dec_lt}
use Rattle.paper.specs.Bytes.{Bytes, number, bytes, difference}
use Rattle.paper.specs.Tables.{Plan}
use Rattle.paper.specs.Windows.{output}
use Rattle.paper.specs.Sets.{inputs}
use Rattle.paper.specs.Report.{Figures, record_of, head_record, task_record, verdict, path_record, best, worst}
use Rattle.paper.specs.Report.{task_report, path_report, each, report}
use Rattle.paper.specs.Places.{task_from, path_from, Stands}
use Rattle.theory.specs.Bytes.{number_front, number_behind, number_bytes, difference_signed}
use Rattle.theory.specs.Report.Length.{each_length, head_length, task_length, path_length}

-- A number inside record k of a row of records of one length is that record's.
number_each : (long n : ℕ) (f : ℕ → Bytes) → ((k : ℕ) → length (f k) ≡ long) → (k at width : ℕ) → k < n → at + width ≤ long
    → number (each n f) (long * k + at) width ≡ number (f k) at width
unfolding each
number_each long zero f same k at width l h = absurd (omega arith)
number_each long (suc n) f same k at width l h =
    elim (dec_lt k n) [
      | yes before ↦
          let inside : long * k + at + width ≤ length (each n f) =
          omega (arith, each_length long n f same, mul-le-mul_left long (before)) in
          number_front (each n f) (f n) (long * k + at) width inside ∙ number_each long n f same k at width before h
      | no last ↦
          let here : k ≡ n = omega arith in
          rw (here, ← each_length long n f same) (number_behind (each n f) (f n) at width)
    ]

-- Every figure of a report fits the bytes that it has there.
pub record Fitting (p : Plan) (f : Figures) : Type 0 where
  pub sweeps : f.sweeps < 256 ^ 8
  pub tasks : p.tasks < 256 ^ 1
  pub paths : p.paths < 256 ^ 1
  pub R- : (k : ℕ) → k < p.tasks → (p.task k).C- < 256 ^ 4
  pub R+ : (k : ℕ) → k < p.tasks → f.R k < 256 ^ 4
  pub input : (k : ℕ) → k < p.tasks → (inputs p f.R k).J < 256 ^ 4
  pub outputs : (k : ℕ) → k < p.tasks → (output (p.task k).C- (inputs p f.R k) (f.R k)).J < 256 ^ 4
  pub jobs : (k : ℕ) → k < p.tasks → f.jobs k < 256 ^ 2
  pub verdicts : (q : ℕ) → q < p.paths → verdict (p.deadline q) (worst p f.R q) < 256 ^ 1
  pub bests : (q : ℕ) → q < p.paths → best p q < 256 ^ 8
  pub worsts : (q : ℕ) → q < p.paths → worst p f.R q < 256 ^ 8
  pub above : (q : ℕ) → q < p.paths → 2 * (p.deadline q - worst p f.R q) < 256 ^ 8
  pub below : (q : ℕ) → q < p.paths → 2 * (worst p f.R q - p.deadline q) ≤ 256 ^ 8

module _ (p : Plan) (f : Figures) (rest : Bytes) where
  -- A number inside the head of the report is the head's.
  in_head : (at width : ℕ) → at + width ≤ 14
      → number (report p f ++ rest) at width ≡ number (head_record f.sweeps p.tasks p.paths) at width
  unfolding report
  in_head at width h =
      let head = head_record f.sweeps p.tasks p.paths in
      let tasks = each p.tasks (task_report p f) in
      let paths = each p.paths (path_report p f) in
      let long : length head ≡ 14 = head_length f.sweeps p.tasks p.paths in
      number_front (head ++ tasks ++ paths) rest at width (simp length-append (omega arith))
      ∙ number_front (head ++ tasks) paths at width (simp length-append (omega arith))
      ∙ number_front head tasks at width (omega arith)

  -- A number inside task k's record of the report is that record's,
  in_task : (k at width : ℕ) → k < p.tasks → at + width ≤ 22
      → number (report p f ++ rest) (task_from k + at) width ≡ number (task_report p f k) at width
  unfolding report
  in_task k at width l h =
      let head = head_record f.sweeps p.tasks p.paths in
      let tasks = each p.tasks (task_report p f) in
      let paths = each p.paths (path_report p f) in
      let long : length head ≡ 14 = head_length f.sweeps p.tasks p.paths in
      let all : length tasks ≡ 22 * p.tasks = each_length 22 p.tasks (task_report p f) (task_length p f) in
      number_front (head ++ tasks ++ paths) rest (task_from k + at) width (simp length-append (omega arith))
      ∙ number_front (head ++ tasks) paths (task_from k + at) width (simp length-append (omega arith))
      ∙ rw (add_assoc 14 (22 * k) at, ← long) (number_behind head tasks (22 * k + at) width)
      ∙ number_each 22 p.tasks (task_report p f) (task_length p f) k at width l h

  -- and one inside path q's record is that record's.
  in_path : (q at width : ℕ) → q < p.paths → at + width ≤ 29
      → number (report p f ++ rest) (path_from p.tasks q + at) width ≡ number (path_report p f q) at width
  unfolding report
  in_path q at width l h =
      let head = head_record f.sweeps p.tasks p.paths in
      let tasks = each p.tasks (task_report p f) in
      let paths = each p.paths (path_report p f) in
      let long : length (head ++ tasks) ≡ 14 + 22 * p.tasks =
      length-append head tasks
      ∙ ap₂ ◌+◌ (head_length f.sweeps p.tasks p.paths) (each_length 22 p.tasks (task_report p f) (task_length p f)) in
      let all : length paths ≡ 29 * p.paths = each_length 29 p.paths (path_report p f) (path_length p f) in
      number_front (head ++ tasks ++ paths) rest (path_from p.tasks q + at) width
      (omega (arith, length-append (head ++ tasks) paths))
      ∙ rw (add_assoc (14 + 22 * p.tasks) (29 * q) at, ← long) (number_behind (head ++ tasks) paths (29 * q + at) width)
      ∙ number_each 29 p.paths (path_report p f) (path_length p f) q at width l h

  -- Figures that fit their bytes stand in the report.
  pub report_stands : Fitting p f → Stands p f (report p f ++ rest)
  unfolding head_record task_report task_record path_report path_record record_of number bytes difference
  report_stands fits =
      record {
        head = (in_head 0 1 (omega arith), in_head 1 2 (omega arith));
        edition = in_head 3 1 (omega arith);
        sweeps = in_head 4 8 (omega arith) ∙ number_bytes 8 f.sweeps fits.sweeps;
        tasks = in_head 12 1 (omega arith) ∙ number_bytes 1 p.tasks fits.tasks;
        paths = in_head 13 1 (omega arith) ∙ number_bytes 1 p.paths fits.paths;
        task_heads = λ k l. (tag_at (task_from k) ∙ in_task k 0 1 l (omega arith), in_task k 1 2 l (omega arith));
        task_own = λ k l. in_task k 3 1 l (omega arith) ∙ number_bytes 1 k (omega (arith, fits.tasks));
        R- = λ k l. in_task k 4 4 l (omega arith) ∙ number_bytes 4 _ (fits.R- k l);
        R+ = λ k l. in_task k 8 4 l (omega arith) ∙ number_bytes 4 _ (fits.R+ k l);
        input = λ k l. in_task k 12 4 l (omega arith) ∙ number_bytes 4 _ (fits.input k l);
        outputs = λ k l. in_task k 16 4 l (omega arith) ∙ number_bytes 4 _ (fits.outputs k l);
        jobs = λ k l. in_task k 20 2 l (omega arith) ∙ number_bytes 2 _ (fits.jobs k l);
        path_heads = λ q l.
            (tag_at (path_from p.tasks q) ∙ in_path q 0 1 l (omega arith), in_path q 1 2 l (omega arith));
        path_own = λ q l. in_path q 3 1 l (omega arith) ∙ number_bytes 1 q (omega (arith, fits.paths));
        verdicts = λ q l. in_path q 4 1 l (omega arith) ∙ number_bytes 1 _ (fits.verdicts q l);
        bests = λ q l. in_path q 5 8 l (omega arith) ∙ number_bytes 8 _ (fits.bests q l);
        worsts = λ q l. in_path q 13 8 l (omega arith) ∙ number_bytes 8 _ (fits.worsts q l);
        slacks = λ q l. rw (in_path q 21 8 l (omega arith)) (difference_signed 8 _ _ (fits.above q l) (fits.below q l));
      }
    where
      -- the tag of a record stands where the record begins
      tag_at : (at : ℕ) → number (report p f ++ rest) at 1 ≡ number (report p f ++ rest) (at + 0) 1
      tag_at at = ap (λ from. number (report p f ++ rest) from 1) (sym (add-zero at))
