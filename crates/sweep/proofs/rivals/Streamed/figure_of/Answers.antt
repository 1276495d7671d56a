-- `figure_of` works with what the equations read of the plan's task.
use Rattle.std.proofs.Common.{◌∙◌, ap, subst, arith}
use Rattle.paper.specs.Windows.{Setting, Bounded}
use Rattle.stream.specs.Model.{model_of}
use Rattle.stream.specs.declared.model.EventModel.{EventModel}
use Rattle.bound.specs.Setting.{interference_of}
use Rattle.bound.specs.Answers.{Outside}
use Rattle.sweep.proofs.Rows.{counted, cost_in_range, streams_counted, stream_is, stream_in_range}
use Rattle.sweep.proofs.Worked.{same_setting}
use Rattle.sweep.proofs.rivals.Streamed.figure_of.Goals as goal

-- The task has a row
pub bounds-self-k : goal.bounds-self-k
bounds-self-k c =
    let (p, S, so, h) = c.requires in
    omega (arith, counted so.planned)

-- and an input stream,
pub bounds-self-k-2 : goal.bounds-self-k-2
bounds-self-k-2 c =
    let (p, S, so, h) = c.requires in
    omega (arith, streams_counted so)

-- with numbers in range.
pub invariant_of-own : goal.invariant_of-own
invariant_of-own c =
    let (p, S, so, h) = c.requires in
    let k = c.args.k.0 in
    record {
      some_cost = (cost_in_range so.planned k _ h).0;
      most_in_range = (cost_in_range so.planned k _ h).1;
      period_in_range = (stream_in_range so k _ h).1;
    }

-- A task that has no bound within limits leaves them.
pub returns-in_err-bound : goal.returns-in_err-bound
returns-in_err-bound c p S so h =
    let rivals = ap interference_of c.deref.ensures.0 ∙ c.gather.ensures.interfere p S so h in
    let same = same_setting c.deref.result.now c.args.k.0 _ _ so h rivals in
    rw c.from_residual.ensures
    (record { counted = h; outside = subst (λ (s : Setting). Outside s) same c.in_err-bound.ensures })

-- The bound of any other task is what is worked out.
pub returns : goal.returns
returns c p S so h =
    let rivals = ap interference_of c.deref.ensures.0 ∙ c.gather.ensures.interfere p S so h in
    let same = same_setting c.deref.result.now c.args.k.0 _ _ so h rivals in
    let worked = c.in_ok-bound.field-0 in
    record {
      bounded = subst (λ (s : Setting). Bounded s worked.bound.0 worked.jobs.0) same c.in_ok-bound.ensures;
      input = ap (λ (M : EventModel). model_of M) (stream_is so c.args.k.0 _ h);
    }
