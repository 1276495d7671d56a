-- `same` compares the bounds pair by pair.
use Rattle.std.proofs.Common.{rules, tests}
use Rattle.std.proofs.lemmas.Iterator.{YieldsList-from_slice, YieldsList-from_zip, cases_from_all}
use Rattle.sweep.proofs.Alike.{Alike, Apart, alike_told}
use Rattle.sweep.proofs.all.same.Goals as goal

-- All pairs pass the test, or one does not.
pub returns : goal.returns
returns c =
    alike_told c.args.old.now c.args.new.now c.requires c.all.result
    (cases_from_all c.all.new.self _ _ Alike Apart c.all.ensures.ran
    (YieldsList-from_zip (YieldsList-from_slice c.args.old.now cc) (YieldsList-from_slice c.args.new.now cc))
    (λ x q k. search (rules, tests)) (λ x q k. search (rules, tests)))
