-- `put_answer` puts the words of the answer that is due.
use Rattle.std.proofs.Common.{ap}
use Rattle.paper.specs.Answer.{Answer}
use Rattle.bench.specs.Answers.{said}
use Rattle.bench.proofs.Said.{report_inside}
use Rattle.console.proofs.line.put_answer.Goals as goal

-- A report that is accepted lies inside its room.
pub put_words-requires : goal.put_words-requires
put_words-requires c = report_inside c.answer-answer.result c.answer-answer.ensures

-- The words are those of the answer that is due, and the sweep number is its own.
pub returns-clause-says : goal.returns-clause-says
returns-clause-says c = (
  record {
    answer = said c.answer-answer.result;
    out = c.answer-answer.new.report;
    due = c.answer-answer.ensures.due;
    put = c.put_words.ensures.words;
  },
  ap (λ (a : Answer). a.sweep) c.from.ensures,
)
