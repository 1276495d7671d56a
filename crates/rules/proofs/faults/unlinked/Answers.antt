-- `unlinked` looks for a link of a path that the plan does not have.
use Rattle.std.proofs.Common.{◌+◌, ◌-◌, ◌<◌, ◌≡◌, sym, arith, rules, add-zero, length}
use Rattle.std.specs.Slice.Iter.{windows_size, windows_rest}
use Rattle.std.proofs.lemmas.Iterator.{window_more}
use Rattle.paper.specs.Words.{any}
use Rattle.theory.specs.Numbers.Tests.{passes_any}
use Rattle.rules.specs.Faults.{broken}
use Rattle.rules.proofs.Listed.{none_more}
use Rattle.rules.proofs.faults.unlinked.Goals as goal

-- At first no link is looked at.
pub loop-pair-init : goal.loop-pair-init
unfolding any
loop-pair-init c = search rules

-- A link that the plan does not have is found.
pub returns-then-not-fed_by : goal.returns-then-not-fed_by
unfolding broken
returns-then-not-fed_by c =
    let so = c.loop-pair.invariant in
    let some : 0 < windows_size c.loop-pair.pair-iterator = omega (arith, so.pairs) in
    let turn =
    window_more c.args.path.now c.loop-pair.pair-iterator c.next.new.self _ _ c.in-Some.is c.next.ensures.steps some so.shorter so.end in
    let before = turn.3 0 0 (omega (arith, so.pairs)) in
    let after = turn.3 1 0 (omega (arith, so.pairs)) in
    sym
    (passes_any _ _ (length c.args.path.now - length (windows_rest c.loop-pair.pair-iterator)) (omega (arith, so.pairs, turn.2))
    (rw (
      ← after,
      ← c.from-in-loop-pair.ensures,
      ← c.row.ensures,
      ← rw add-zero at before,
      ← c.from.ensures,
      ← c.fed_by.ensures,
      c.if-not-fed_by.true,
    )))

-- The next link is one of the plan.
pub loop-pair-preserved : goal.loop-pair-preserved
loop-pair-preserved c =
    let so = c.loop-pair.invariant in
    let some : 0 < windows_size c.loop-pair.pair-iterator = omega (arith, so.pairs) in
    let turn =
    window_more c.args.path.now c.loop-pair.pair-iterator c.next.new.self _ _ c.in-Some.is c.next.ensures.steps some so.shorter so.end in
    let before = turn.3 0 0 (omega (arith, so.pairs)) in
    let after = turn.3 1 0 (omega (arith, so.pairs)) in
    let i = length c.args.path.now - length (windows_rest c.loop-pair.pair-iterator) in
    let more : length c.args.path.now - length (windows_rest c.next.new.self) ≡ i + 1 = omega (arith, turn.0, so.shorter) in
    record {
      pairs = rw so.pairs at c.next.ensures.steps.0;
      shorter = omega (arith, turn.0, so.shorter);
      end = turn.1;
      within = omega (arith, turn.0, turn.2, so.pairs, so.shorter);
      held =
          rw more
          (none_more i _ so.held
          (rw (
            ← after,
            ← c.from-in-loop-pair.ensures,
            ← c.row.ensures,
            ← rw add-zero at before,
            ← c.from.ensures,
            ← c.fed_by.ensures,
            c.if-not-fed_by.false,
          )));
    }

-- After the loop every link is one of the plan.
pub returns : goal.returns
unfolding broken
returns c =
    let so = c.loop-pair.invariant in
    let done : length c.args.path.now - length (windows_rest c.loop-pair.pair-iterator) ≡ length c.args.path.now - 1 =
    omega (arith, so.pairs, so.within, so.shorter, c.in-None.ensures.steps.1.0) in
    sym (rw done at so.held)
