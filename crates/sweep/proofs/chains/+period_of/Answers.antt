-- `period_of` gives a task's period: that of its events, or its feeder's.
use Rattle.std.proofs.Common.{sym, ◌∙◌, arith}
use Rattle.theory.specs.Plans.Inputs.{period_fed, period_outside}
use Rattle.sweep.proofs.Rows.{counted, fed_by, fed_counted, starts}
use Rattle.sweep.proofs.Back.{depth_nearer}
use Rattle.sweep.proofs.chains.+period_of.Goals as goal

-- The task has a row,
pub bounds : goal.bounds
bounds t c =
    let (p, so, h) = c.requires in
    omega (arith, counted so)

-- also where its feeder is read from it.
pub bounds-tasks : goal.bounds-tasks
bounds-tasks t c =
    let (p, so, h) = c.requires in
    omega (arith, counted so)

-- The feeder is a task of the plan, and nearer to the chain's start.
pub period_of-requires : goal.period_of-requires
period_of-requires t c =
    let (p, so, h) = c.requires in
    (omega (arith, depth_nearer so _ _ h c.in-Fed.is, c.decreases), (p, so, fed_counted so _ _ h c.in-Fed.is))

-- The chain's start has the period of its events,
pub returns-in-Outside : goal.returns-in-Outside
returns-in-Outside t c p so h = λ i. record { 0 = sym (period_outside p _ _ (starts so _ _ h c.in-Outside.is)) i }

-- and a fed task its feeder's.
pub returns-in-Fed : goal.returns-in-Fed
returns-in-Fed t c p so h =
    c.period_of.ensures p so (fed_counted so _ _ h c.in-Fed.is)
    ∙ (λ i. record { 0 = sym (period_fed so.sound _ _ h (fed_by so _ _ h c.in-Fed.is)) i })
