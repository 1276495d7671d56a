-- "A small program reads a plan from standard input and prints one line: the report alone, in capital hexadecimal without
-- spaces, or the refusal number and place in decimal with one space between." In ASCII.
use Rattle.std.specs.Prelude.{ℕ, zero, suc, ◌+◌, ◌/◌, ◌%◌, [], ◌∷◌, ◌++◌, cond, eqb, ltb, take}
use Rattle.paper.specs.Bytes.{Bytes}
use Rattle.paper.specs.Answer.{Answer}

-- The digit of a number below 16: 0 to 9, then A to F.
unfoldable pub digit_of : ℕ → ℕ
digit_of n = cond (ltb n 10) (48 + n) (55 + n)

-- Bytes in capital hexadecimal: two digits for each.
unfoldable pub hex_of : Bytes → Bytes
hex_of [] = []
hex_of (b ∷ s) = digit_of (b / 16) ∷ digit_of (b % 16) ∷ hex_of s

-- A number in decimal, in at most so many digits: the digits of its tenth if that is not 0, and its last digit.
unfoldable pub decimal_in : (most n : ℕ) → Bytes
decimal_in zero n = []
decimal_in (suc most) n = cond (ltb n 10) [] (decimal_in most (n / 10)) ++ (digit_of (n % 10) ∷ [])

-- A number in decimal. It has fewer digits than n + 2.
unfoldable pub decimal_of : ℕ → Bytes
decimal_of n = decimal_in (suc n) n

-- What the line says of an answer and what the report space then holds: the report, or number, space, place.
unfoldable pub words_of : Answer → Bytes → Bytes
words_of a out =
    cond (eqb a.number 0) (hex_of (take a.place out)) (decimal_of a.number ++ (32 ∷ []) ++ decimal_of a.place)

-- The line: the words and the end of a line.
unfoldable pub line_of : Answer → Bytes → Bytes
line_of a out = words_of a out ++ (10 ∷ [])
