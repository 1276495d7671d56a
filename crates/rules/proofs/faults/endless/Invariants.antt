-- `endless` goes back from feeder to feeder.
use Rattle.std.proofs.Common.{◌-◌, ◌<◌, ◌≡◌, length}
use Rattle.rules.specs.Faults.{back_from}
use Rattle.rules.specs.Rows.{fed_in, feeder_in}
use Rattle.rules.proofs.faults.endless.Given as goal

-- The loop's invariant: the steps that are left lead on from here.
abbrev pub invariant-loop-m : goal.invariant-loop-m
invariant-loop-m l = record {
  counted : l.k.0 < length l.tasks;
  ahead : back_from (fed_in l.tasks) (feeder_in l.tasks) (length l.tasks) l.fn.task.0
      ≡ back_from (fed_in l.tasks) (feeder_in l.tasks) (length l.tasks - l.m) l.k.0;
}
