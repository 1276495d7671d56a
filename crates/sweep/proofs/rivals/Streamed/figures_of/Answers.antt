-- `figures_of` works out the figures of the tasks one by one, up to the lowest that leaves the limits.
use Rattle.std.proofs.Common.{◌<◌, ◌≡◌, refl, rules, arith, Err}
use Rattle.sweep.proofs.Rows.{counted, room}
use Rattle.sweep.proofs.Worked.{upto_none, upto_more, handed, lowest}
use Rattle.sweep.proofs.rivals.Streamed.figures_of.Goals as goal

-- At first the list that is lent is cleared: no figures are worked out.
pub loop-k-init : goal.loop-k-init
loop-k-init c =
    let (p, S, so) = c.requires in
    rw c.clear.ensures (record { room = room so.planned; count = omega arith; upto = λ p S so. upto_none })

-- The next task is one of the plan's.
pub figure_of-requires : goal.figure_of-requires
figure_of-requires c =
    let (p, S, so) = c.requires in
    (p, S, so, omega (arith, counted so.planned))

-- The sweep ends with the first task that leaves the limits.
pub returns-in_err-ok_or : goal.returns-in_err-ok_or
returns-in_err-ok_or c p S so =
    let given : c.from_residual.result ≡ Err c.in_err-ok_or.field-0.0 = search rules in
    let h : c.loop-k.k < p.tasks = omega (arith, counted so.planned) in
    let (leaves, own) = handed p S c.loop-k.k c.args.number _ _ (c.figure_of.ensures p S so h) c.in_err-ok_or.ensures.value in
    rw (given, own) (lowest (c.loop-k.invariant.upto p S so) leaves, refl)

-- One task's figures more are worked out.
pub loop-k-preserved : goal.loop-k-preserved
loop-k-preserved c =
    let so_far = c.loop-k.invariant in
    record {
      room = so_far.room;
      count = omega (arith, c.push.ensures.len);
      upto = λ p S so.
          let h : c.loop-k.k < p.tasks = omega (arith, counted so.planned) in
          rw c.push.ensures.items
          (upto_more (so_far.upto p S so)
          (handed p S c.loop-k.k c.args.number _ _ (c.figure_of.ensures p S so h) c.in_ok-ok_or.ensures.value));
    }

-- At the end all of them are.
pub returns : goal.returns
returns c p S so =
    let done : c.loop-k.k ≡ p.tasks = omega (arith, counted so.planned) in
    rw done at (c.loop-k.invariant.upto p S so)
