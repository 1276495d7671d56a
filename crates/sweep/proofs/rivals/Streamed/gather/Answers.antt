-- `gather` gathers a task's rivals one by one.
use Rattle.std.proofs.Common.{◌<◌, ◌≡◌, refl, arith}
use Rattle.paper.specs.Windows.{interference}
use Rattle.sweep.proofs.Rows.{counted, cost_in_range, streams_counted, stream_in_range}
use Rattle.sweep.proofs.Gather.{rival_told, gathered_none, gathered_skip, gathered_room, gathered_put}
use Rattle.sweep.proofs.rivals.Streamed.gather.Goals as goal
use Rattle.sweep.proofs.rivals.Streamed.gather.Goals.{then-is_rival, else-is_rival}

-- The task has a row.
pub bounds-self-task : goal.bounds-self-task
bounds-self-task c =
    let (p, S, so, h) = c.requires in
    omega (arith, counted so.planned)

-- At first the list that is lent is cleared: no rivals are gathered.
pub loop-j-init : goal.loop-j-init
loop-j-init c = rw c.clear.ensures (record { few = omega arith; gathered = λ p S so h. gathered_none })

-- The next task has an input stream,
pub bounds-self-j-then-is_rival : goal.bounds-self-j-then-is_rival
bounds-self-j-then-is_rival c =
    let (p, S, so, h) = c.requires in
    omega (arith, counted so.planned, streams_counted so)

-- whose numbers are in range, as its cost is.
pub invariant_of-push : goal.invariant_of-push
invariant_of-push c =
    let (p, S, so, h) = c.requires in
    let l : c.loop-j.j < p.tasks = omega (arith, counted so.planned) in
    let stream = stream_in_range so c.loop-j.j _ l in
    record {
      recurring = stream.0;
      period_in_range = stream.1;
      jitter_in_range = stream.2;
      cost_in_range = (cost_in_range so.planned c.loop-j.j _ l).1;
    }

-- A rival that is found has room.
pub push-requires : goal.push-requires
push-requires c =
    let (p, S, so, h) = c.requires in
    let l : c.loop-j.j < p.tasks = omega (arith, counted so.planned) in
    let found = rival_told c.args.task.0 c.loop-j.j _ _ so.planned h l c.is_rival.ensures c.if-is_rival.true in
    let room = gathered_room so (c.loop-j.invariant.gathered p S so h) h l found in
    (omega arith, omega (arith, room))

-- A rival is put to the others, and any other task is passed over.
pub loop-j-preserved : goal.loop-j-preserved
loop-j-preserved c =
    elim c.if-is_rival.branch [
      | then-is_rival w ↦
          let (p, S, so, h) = c.requires in
          let l : c.loop-j.j < p.tasks = omega (arith, counted so.planned) in
          let found = rival_told c.args.task.0 c.loop-j.j _ _ so.planned h l c.is_rival.ensures w.if-is_rival.true in
          let room = gathered_room so (c.loop-j.invariant.gathered p S so h) h l found in
          rw w.rivals-is
          (record {
            few = omega (arith, room, w.push.ensures.len);
            gathered = λ p S so h.
                let l : c.loop-j.j < p.tasks = omega (arith, counted so.planned) in
                let found = rival_told c.args.task.0 c.loop-j.j _ _ so.planned h l c.is_rival.ensures w.if-is_rival.true in
                rw w.push.ensures.items
                (gathered_put so (c.loop-j.invariant.gathered p S so h) h l found _ _ _ refl refl);
          })
      | else-is_rival w ↦
          rw w.rivals-is
          (record {
            few = c.loop-j.invariant.few;
            gathered = λ p S so h.
                let l : c.loop-j.j < p.tasks = omega (arith, counted so.planned) in
                gathered_skip so (c.loop-j.invariant.gathered p S so h)
                (rival_told c.args.task.0 c.loop-j.j _ _ so.planned h l c.is_rival.ensures w.if-is_rival.false);
          })
    ]

-- At the end all of them are gathered.
pub returns-clause-interfere : goal.returns-clause-interfere
unfolding interference
returns-clause-interfere c p S so h =
    let done : c.loop-j.j ≡ p.tasks = omega (arith, counted so.planned) in
    λ i t. (rw done at ((c.loop-j.invariant.gathered p S so h).interfere t)) i
