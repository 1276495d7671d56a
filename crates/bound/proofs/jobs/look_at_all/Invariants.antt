-- What the loop of `look_at_all` keeps: the jobs before job q have been looked at, and the look goes on.
use Rattle.std.proofs.Common.{◌-◌}
use Rattle.bound.specs.Setting.{setting_of}
use Rattle.bound.proofs.Looks.{Looking}
use Rattle.bound.proofs.jobs.look_at_all.Given as goal

-- The look has come to job q.
abbrev pub invariant-loop-q : goal.invariant-loop-q
invariant-loop-q l = Looking (setting_of l.own l.rivals.all.now) (l.q - 1) l.largest.0
