-- `shares` compares a task with those of a lower number.
use Rattle.std.proofs.Common.{ℕ, ◌≤◌, ◌≡◌, ◌∙◌, ap, arith, List, Bool, ◌&&◌, eqb, length}
use Rattle.std.proofs.Common.{take, get_or, length-take-le, get_or-take, rules, tests}
use Rattle.std.proofs.lemmas.Iterator.{YieldsList-from_slice}
use Rattle.std.proofs.lemmas.Iterator.Search.{any_from_yields_List}
use Rattle.std.specs.List.{list_any}
use Rattle.plan.specs.declared.tasks.Task.{Task}
use Rattle.plan.specs.Tables.{blank}
use Rattle.paper.specs.Words.{any}
use Rattle.rules.specs.Faults.{shares}
use Rattle.rules.specs.Rows.{controller_in, priority_in}
use Rattle.rules.proofs.Listed.{any_listed, any_same}
use Rattle.rules.proofs.faults.shares.Goals as goal

-- Any of the rows before row k is like it where it shares with a lower-numbered one.
lower : (rows : List Task) (k : ℕ) (own : Task) → k ≤ length rows → own ≡ get_or rows k blank
    → list_any (λ t. eqb t.controller.0 own.controller.0 && eqb t.priority own.priority) (take k rows)
    ≡ shares (controller_in rows) (priority_in rows) k
unfolding shares
lower rows k own h is =
    let alike : Task → Bool = λ t. eqb t.controller.0 (controller_in rows k) && eqb t.priority (priority_in rows k) in
    rw is
    (any_listed alike blank (take k rows)
    ∙ ap (λ n. any n (λ j. alike (get_or (take k rows) j blank))) (length-take-le k rows h)
    ∙ any_same k _ _ (λ j l. ap alike (get_or-take k rows j blank l)))

-- The lower-numbered tasks are compared.
pub returns : goal.returns
returns c =
    let own = c.row-own.result.now in
    any_from_yields_List (λ (t : Task). eqb t.controller.0 own.controller.0 && eqb t.priority own.priority) _ _ c.any.result
    c.any.ensures.ran (YieldsList-from_slice _ cc) (λ x b q h. search (rules, tests))
    ∙ lower c.args.tasks.now c.args.task.0 own (omega arith) c.row-own.ensures
