-- `put_refusal` puts what document 01's line says of a refusal.
use Rattle.std.proofs.Common.{◌≡◌, ◌∙◌, ap, subst, eqb, false}
use Rattle.paper.specs.Answer.{Answer}
use Rattle.paper.specs.Line.{words_of}
use Rattle.bench.proofs.Said.{refused_number}
use Rattle.console.specs.Said.{Put}
use Rattle.console.proofs.Laws.{put_more}
use Rattle.console.proofs.line.put_refusal.Goals as goal

-- Its number, a space and its place.
pub returns-clause-words : goal.returns-clause-words
unfolding words_of
returns-clause-words c =
    λ report.
    let is = c.from-numbers.ensures in
    let some : eqb c.from-numbers.result.number 0 ≡ false =
    ap (λ (a : Answer). eqb a.number 0) is ∙ refused_number c.args.refusal in
    subst (λ a. Put c.args.text.now 0 (words_of a report) c.put_decimal.new.text c.put_decimal.result) is
    (rw some (put_more (put_more c.put_decimal-number.ensures.0 c.put-space.ensures) c.put_decimal.ensures.0))
