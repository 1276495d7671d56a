-- `crowded` says whether a controller has more tasks than are allowed.
use Rattle.std.proofs.Common.{◌≡◌, Bool, eqb, length, rules, tests}
use Rattle.std.proofs.lemmas.Iterator.{YieldsList-from_slice}
use Rattle.std.proofs.lemmas.Iterator.Consumers.{YieldsList-at, count_from_yields_List, YieldsList-from_filter}
use Rattle.std.specs.List.{filter}
use Rattle.plan.specs.declared.tasks.Task.{Task}
use Rattle.plan.specs.Tables.{blank}
use Rattle.rules.specs.Faults.{crowded}
use Rattle.rules.proofs.Listed.{count_listed}
use Rattle.rules.proofs.faults.crowded.Goals as goal

-- Their count is compared with the limit.
pub returns : goal.returns
unfolding crowded
returns c =
    let on : Task → Bool = λ t. eqb t.controller.0 c.args.own.0 in
    let kept : c.count.result ≡ length (filter on c.args.tasks.now) =
    count_from_yields_List c.filter.result c.count.result c.count.ensures.ran
    (YieldsList-from_filter _ on (YieldsList-at c.filter.ensures.source (YieldsList-from_slice _ cc)) c.filter.ensures.closure
    (λ x b q h. search (rules, tests))) in
    rw (kept, count_listed on blank c.args.tasks.now)
