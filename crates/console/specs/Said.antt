-- What a text holds once an answer was put into it, and that the line for a plan is one.
use Rattle.std.specs.Prelude.{ℕ, ◌+◌, ◌≡◌, [], ◌∷◌, ◌++◌, length}
use Rattle.std.proofs.Common.{ap, sym, ◌∙◌}
use Rattle.std.proofs.lemmas.List.Edits.{sets}
use Rattle.paper.specs.Bytes.{Bytes}
use Rattle.paper.specs.Answer.{Answer, Due}
use Rattle.paper.specs.Line.{decimal_of, words_of}
use Rattle.theory.specs.Outcomes.Unique.{due_one}
use Rattle.paper.specs.Report.{report_bytes}

-- Words stand in a text from a place on, up to an end; the rest of it is as it was.
pub record Put (before : Bytes) (at : ℕ) (words text : Bytes) (end : ℕ) : Type 0 where
  pub stored : text ≡ sets before at words
  pub ends : end ≡ at + length words

-- The line with the sweep number at its end, as stored answers have it.
unfoldable pub swept_line_of : Answer → Bytes → Bytes
swept_line_of a out = words_of a out ++ (32 ∷ []) ++ decimal_of a.sweep ++ (10 ∷ [])

-- At the front of a text, up to an end, stands the line of the answer that is due for a plan where there is room for any
-- report; the rest of the text is as it was.
pub record Says (line : Answer → Bytes → Bytes) (plan before text : Bytes) (end : ℕ) : Type 0 where
  pub answer : Answer
  pub out : Bytes
  pub due : Due plan report_bytes answer out
  pub put : Put before 0 (line answer out) text end

-- No two outcomes satisfy the contract of a line: two that do are one text and one end.
pub says_one : (line : Answer → Bytes → Bytes) {plan before text text' : Bytes} {end end' : ℕ}
    → Says line plan before text end → Says line plan before text' end' → (text ≡ text') × (end ≡ end')
says_one line {before = before} s s' =
    let one = due_one s.due s'.due in
    let same = ap (λ (a : Answer). line a s.out) one.0 ∙ ap (line s'.answer) one.1 in (
      s.put.stored ∙ ap (sets before 0) same ∙ sym s'.put.stored,
      s.put.ends ∙ ap (λ words. 0 + length words) same ∙ sym s'.put.ends,
    )
