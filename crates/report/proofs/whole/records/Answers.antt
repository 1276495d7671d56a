-- `whole::records` writes records one after the other.
use Rattle.std.proofs.Common.{◌≡◌, ◌+◌, ◌-◌, ◌*◌, ◌≤◌, ◌∙◌, length, get_or, refl, sym, arith, mul-le-mul_left, mul-suc}
use Rattle.std.proofs.lemmas.List.{get_or_default}
use borrow.Rule.Slice.PartMut.{same_len_mid}
use Rattle.paper.specs.Report.{each}
use Rattle.report.proofs.Laws.{record_more}
use Rattle.report.proofs.whole.records.Goals as goal

-- Before record 0 nothing is written.
pub loop-k-init : goal.loop-k-init
unfolding each
loop-k-init g c = (refl, λ none. record { is = refl })

-- Record k is written where the one before it ended.
pub loop-k-preserved : goal.loop-k-preserved
loop-k-preserved g c =
    let l = c.loop-k in
    let rows = c.args.rows.now in
    let long = c.LONG.result in
    let m = c.write.new.rest in
    let all = rw (← c.LONG.ensures) at c.requires in
    let up = mul-le-mul_left long c.loop-k-test.true in
    let room : long * l.k + long ≤ length l.rest = omega (arith, all, up, mul-suc long l.k) in (
      same_len_mid (long * l.k) (length l.rest - long * l.k) l.rest m c.write.auto.rest ∙ l.invariant.0,
      λ none.
          let is = c.index-rows-k.is ∙ get_or_default rows l.k _ none c.loop-k-test.true in
          record_more long l.k (λ k. g.R.Record.record_of (get_or rows k none) k) _ l.rest m
          (λ k. g.met.R.Record.all_long (get_or rows k none) k ∙ sym c.LONG.ensures)
          (l.invariant.1 none) room (rw is at c.write.ensures),
    )

-- At the end all of them are written.
pub returns : goal.returns
returns g c =
    λ none.
    let done : c.loop-k.k ≡ length c.args.rows.now = omega arith in
    rw done at (c.loop-k.invariant.1 none)
