-- `whole::write` writes the whole report, and FF after it.
use Rattle.std.proofs.Common.{◌≡◌, ◌+◌, ◌*◌, ◌-◌, ◌≤◌, ◌++◌, ℕ, List, ap₂, ◌∙◌, length, take, replicate, length-append, arith}
use borrow.Rule.Slice.PartMut.{mid_of, put_mid, same_len_mid}
use Rattle.paper.specs.Bytes.{Bytes}
use Rattle.paper.specs.Report.{head_record, each}
use Rattle.paper.specs.Answer.{blank}
use Rattle.report.specs.declared.figures.TaskFigures.{TaskFigures}
use Rattle.report.specs.declared.figures.PathFigures.{PathFigures}
use Rattle.report.specs.Figured.{no_task, no_path, task_row, path_row, whole_of, long_of}
use Rattle.report.specs.Rows.{task_long, path_long}
use Rattle.report.specs.Wrote.{Wrote}
use Rattle.theory.specs.Report.Length.{each_length, head_length}
use Rattle.report.proofs.Laws.{rest_more, filled}
use Rattle.report.proofs.whole.write.Goals as goal

-- Head, rows of tasks and rows of paths, each written where the last one ended, and FF: the whole report.
written : (sweeps : ℕ) (tasks : List TaskFigures) (paths : List PathFigures) (l l' m n : Bytes)
    → long_of tasks paths ≤ length l → length l' ≡ length l
    → Wrote l 0 (head_record sweeps (length tasks) (length paths)) l'
    → Wrote (mid_of 14 (length l' - 14) l') 0 (each (length tasks) (task_row tasks)) m
    → length (put_mid 14 (length l' - 14) l' m) ≡ length l
    → (let l'' = put_mid 14 (length l' - 14) l' m in let at = 14 + 22 * length tasks in
    Wrote (mid_of at (length l'' - at) l'') 0 (each (length paths) (path_row paths)) n
    → take (long_of tasks paths) (put_mid at (length l'' - at) l'' n)
    ++ replicate (length (put_mid at (length l'' - at) l'' n) - long_of tasks paths) 0xFF
    ≡ whole_of sweeps tasks paths ++ blank (length l - long_of tasks paths))
unfolding whole_of task_row path_row
written sweeps tasks paths l l' m n room same head first same' second =
    let h = head_record sweeps (length tasks) (length paths) in
    let ts = each (length tasks) (task_row tasks) in
    let ps = each (length paths) (path_row paths) in
    let h_long : length h ≡ 14 = head_length sweeps (length tasks) (length paths) in
    let t_long : length ts ≡ 22 * length tasks = each_length 22 (length tasks) (task_row tasks) (λ k. task_long _ k) in
    let p_long : length ps ≡ 29 * length paths = each_length 29 (length paths) (path_row paths) (λ q. path_long _ q) in
    let f_long : length (h ++ ts) ≡ 14 + 22 * length tasks = length-append h ts ∙ ap₂ (λ a b. a + b) h_long t_long in
    let w_long : length (h ++ ts ++ ps) ≡ long_of tasks paths =
    length-append (h ++ ts) ps ∙ ap₂ (λ a b. a + b) f_long p_long in
    let front = rest_more 14 head h_long (omega arith) first in
    filled (long_of tasks paths) (rest_more (14 + 22 * length tasks) front f_long (omega arith) second) w_long room

-- The head, the records of the tasks and those of the paths follow one another, and FF fills what they leave.
pub returns : goal.returns
unfolding whole_of task_row path_row
returns c =
    let head = c.write in
    let tasks = c.records in
    let paths = c.records-2 in
    let same = head.auto.rest in
    let same' = same_len_mid 14 (length head.new.rest - 14) head.new.rest tasks.new.rest tasks.auto.rest ∙ same in
    (rw c.length_of.ensures at c.fill.ensures)
    ∙ written c.args.sweeps c.args.tasks.now c.args.paths.now c.args.out.now head.new.rest tasks.new.rest paths.new.rest
    (omega arith) same head.ensures (tasks.ensures no_task) same' (paths.ensures no_path)
