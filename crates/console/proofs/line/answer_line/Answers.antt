-- `answer_line` puts the line of the answer that is due.
use Rattle.paper.specs.Line.{line_of}
use Rattle.console.proofs.Laws.{put_more}
use Rattle.console.proofs.line.answer_line.Goals as goal

-- The words of the answer that is due, and the end of the line.
pub returns-clause-says : goal.returns-clause-says
unfolding line_of
returns-clause-says c =
    let words = c.put_answer-words.ensures.says.0 in
    record { answer = words.answer; out = words.out; due = words.due; put = put_more words.put c.put.ensures }
