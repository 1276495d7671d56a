-- From a feeder to the task that it feeds: the delay that the feeder adds.
use Rattle.std.proofs.Common.{ℕ, ◌+◌, ◌-◌, ◌<◌, ◌^◌, ◌≡◌, ap, sym, arith, List, length, get_or}
use Rattle.paper.specs.Limits.{most_tasks}
use Rattle.paper.specs.Tables as Tables
use Rattle.paper.specs.Tables.{Plan}
use Rattle.paper.specs.Streams.{Stream, delayed}
use Rattle.paper.specs.Sets.{inputs}
use Rattle.stream.specs.declared.kinds.TaskNo.{TaskNo}
use Rattle.plan.specs.declared.tasks.Source.TheVariants.{Fed}
use Rattle.plan.specs.declared.tasks.Task.{Task}
use Rattle.sweep.specs.declared.once.Figure.{Figure}
use Rattle.sweep.specs.Rows.{bounds_of}
use Rattle.sweep.specs.Planned.{Bounding}
use Rattle.sweep.proofs.Rows.{counted, task_is, fed_by, fed_counted}
use Rattle.sweep.proofs.Jitter.{stream_fed, jitter_small}

module _ {p : Plan} {tasks : List Task} {set : List Figure} (so : Bounding p tasks set) {k : ℕ} (h : k < p.tasks) (d : Task)
    {feeder : TaskNo} (f : (get_or tasks k d).source ≡ Fed feeder) where
  -- A feeder is a task, with a row and a bound.
  pub feeder_within : (feeder.0 < length tasks) × (feeder.0 < length set) × (feeder.0 < most_tasks)
  feeder_within =
      let l = fed_counted so.planned k d h f in
      (omega (arith, counted so.planned), omega (arith, so.count), omega (arith, so.planned.ranged.tasks))

  module _ (e : Task) {delay : ℕ} (own : delay ≡ bounds_of set feeder.0 - (get_or tasks feeder.0 e).least.0) where
    -- The fed task's input stream is the feeder's, delayed,
    pub delayed_is : delayed (inputs p (bounds_of set) feeder.0) delay ≡ inputs p (bounds_of set) k
    delayed_is =
        let least = ap (λ (t : Tables.Task). t.C-) (task_is so.planned feeder.0 e (fed_counted so.planned k d h f)) in
        rw (own, least) (sym (stream_fed so.planned.sound (bounds_of set) k feeder.0 h (fed_by so.planned k d h f)))

    -- and the delay fits.
    pub delay_fits : (inputs p (bounds_of set) feeder.0).J + delay < 2 ^ 64
    unfolding delayed
    delay_fits =
        omega (
          arith,
          ap (λ (M : Stream). M.J) delayed_is,
          jitter_small so.planned.sound so.planned.ranged (bounds_of set) so.capped k h,
        )
