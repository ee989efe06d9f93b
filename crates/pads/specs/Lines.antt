-- Document 01, "House book and program": the lines that the program prints, as lists of bytes. "W with output length, stretches taken and symbols; O with
-- origins; then a C line per candidate", and "X, number, place".
use Rattle.std.specs.Prelude.{ℕ, List, [], ◌∷◌, ◌++◌, length, map, cond, ◌==◌, decimal}
use Rattle.book.specs.declared.replies.Refusal.{Refusal}
use Rattle.book.specs.Refusals.{number}
use Rattle.pads.specs.Digits.{digit_of}

-- two numbers, a blank between them
abbrev pub pair : ℕ → ℕ → List ℕ
pair a b = decimal a ++ (32 ∷ decimal b)

-- each number with a blank before it, and the line's end
abbrev pub numbers_line : List ℕ → List ℕ
numbers_line [] = 10 ∷ []
numbers_line (x ∷ xs) = 32 ∷ (decimal x ++ numbers_line xs)

-- the characters of the symbols; "one minus sign" where there are none
abbrev pub characters : List ℕ → List ℕ
characters out = cond (length out == 0) (45 ∷ []) (map digit_of out)

abbrev pub w_line : ℕ → List ℕ → List ℕ
w_line taken out = 87 ∷ 32 ∷ (pair (length out) taken ++ (32 ∷ (characters out ++ (10 ∷ []))))

abbrev pub o_line : List ℕ → List ℕ
o_line origins = 79 ∷ cond (length origins == 0) (32 ∷ 45 ∷ 10 ∷ []) (numbers_line origins)

abbrev pub x_line : Refusal → List ℕ
x_line r = 88 ∷ 32 ∷ (pair (number r.reason) r.place ++ (10 ∷ []))
