-- `above_one` says whether the load of a controller is above one.
use Rattle.std.proofs.Common.{◌≡◌, ◌∙◌, true, arith, add-one, sym}
use Rattle.load.specs.Shares.{on_in}
use Rattle.load.proofs.Ran.{start, fewer, here, elsewhere}
use Rattle.load.proofs.above_one.Goals as goal
use Rattle.load.proofs.above_one.Goals.{then-eq, else-eq}

-- Before task 0 the fraction is 0/1.
pub loop-share-init : goal.loop-share-init
loop-share-init c = start c.new-load.ensures.counted c.new-load.ensures.num c.new-load.ensures.den

-- There is room for a task of the controller.
pub add-requires : goal.add-requires
add-requires c =
    let k = c.loop-share.share-index in
    let on : on_in c.args.shares.now c.args.c.0 k ≡ true = sym c.eq.ensures ∙ c.if-eq.true in
    record {
      counted = omega (arith, fewer c.loop-share.invariant _ c.loop-share-test.true on, c.requires.c_bound);
      factors = omega (
        arith,
        c.requires.ranged.costs k c.loop-share-test.true,
        c.requires.ranged.ticks k c.loop-share-test.true,
      );
    }

-- A task of the controller is added, and one of another leaves the fraction as it is.
pub loop-share-preserved : goal.loop-share-preserved
loop-share-preserved c =
    let l = c.loop-share in
    rw (add-one l.share-index)
    (elim c.if-eq.branch [
      | then-eq w ↦ rw w.load-is
          (here l.invariant (sym c.eq.ensures ∙ w.if-eq.true) w.add.ensures.sum w.add.ensures.counted)
      | else-eq w ↦ rw w.load-is (elsewhere l.invariant (sym c.eq.ensures ∙ w.if-eq.false))
    ])
