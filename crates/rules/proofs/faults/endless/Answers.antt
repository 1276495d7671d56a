-- `endless` goes back from feeder to feeder.
use Rattle.std.proofs.Common.{ℕ, zero, suc, refl, sym, ap, ◌∙◌, ◌+◌, ◌-◌, ◌<◌, ◌≡◌, true, false, Bool, cond, arith, length}
use Rattle.rules.specs.Faults.{back_from, endless}
use Rattle.rules.specs.Rows.{fed_in}
use Rattle.rules.proofs.faults.endless.Goals as goal

-- Either of two numbers of tasks is the number of a task.
either : (test : Bool) {j k tasks : ℕ} → j < tasks → k < tasks → cond test j k < tasks
either true j k = j
either false j k = k

-- From a task that is not fed any number of steps back stays there.
stays : (fed : ℕ → Bool) (feeder : ℕ → ℕ) (m k : ℕ) → fed k ≡ false → back_from fed feeder m k ≡ k
unfolding back_from
stays fed feeder zero k outside = refl
stays fed feeder (suc m) k outside = rw outside (stays fed feeder m k outside)

-- So what is left of the way leads to no fed task from there.
pub returns-then-not-is_fed : goal.returns-then-not-is_fed
unfolding endless
returns-then-not-is_fed c =
    let so = c.loop-m in
    let fed = fed_in c.args.tasks.now in
    let outside : fed so.k.0 ≡ false = rw c.row-here.ensures at (sym c.is_fed.ensures ∙ c.if-not-is_fed.true) in
    sym (ap fed (so.invariant.ahead ∙ stays fed _ _ _ outside) ∙ outside)

-- One step back, one step fewer is left.
pub loop-m-preserved : goal.loop-m-preserved
unfolding back_from
loop-m-preserved c =
    let so = c.loop-m in
    let left : length c.args.tasks.now - so.m ≡ suc (length c.args.tasks.now - (so.m + 1)) = omega arith in
    record {
      counted =
          rw (c.one_back-k.ensures, c.row-here.ensures)
          (either (fed_in c.args.tasks.now so.k.0) (c.requires.1 so.k.0 so.invariant.counted) so.invariant.counted);
      ahead = rw (c.one_back-k.ensures, c.row-here.ensures) (rw left at so.invariant.ahead);
    }

-- After the loop no step is left.
pub returns : goal.returns
unfolding back_from endless
returns c =
    let so = c.loop-m in
    let over : length c.args.tasks.now - so.m ≡ 0 = omega arith in
    rw (c.is_fed-2.ensures, c.row-last.ensures, rw over at so.invariant.ahead)
