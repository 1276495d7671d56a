-- `answer_line_and_sweep` puts the line of the answer that is due, with the sweep number at its end.
use Rattle.console.specs.Said.{swept_line_of}
use Rattle.console.proofs.Laws.{put_more}
use Rattle.console.proofs.line.answer_line_and_sweep.Goals as goal

-- The words of the answer that is due, a space, the sweep number and the end of the line.
pub returns-clause-says : goal.returns-clause-says
unfolding swept_line_of
returns-clause-says c =
    let (words, same) = c.put_answer-words.ensures.says in
    let sweep = rw same at c.put_decimal-swept.ensures.0 in
    record {
      answer = words.answer;
      out = words.out;
      due = words.due;
      put = put_more (put_more (put_more words.put c.put-space.ensures) sweep) c.put.ensures;
    }
