-- Document 01, "House book and program": lines of digits, "one tape a line", and since document 02, No. 6: "The program prints and reads 0 to 9
-- and a to v, and another character counts as 32", which is the number of symbols.
use Rattle.std.specs.Prelude.{ℕ, ◌+◌, ◌-◌, Bool, cond, ◌&&◌, List, [], ◌∷◌, map, ◌≡◌, refl, leb, ltb, replicate}
use Rattle.book.specs.Format.{symbol_count}
use Rattle.book.specs.Language.{up_from}

-- the first character of the numbers and of the letters, '0' and 'a'; the symbol of that letter
abbrev pub first_number : ℕ
first_number = 48

abbrev pub first_letter : ℕ
first_letter = 97

abbrev pub letters_from : ℕ
letters_from = 10

-- the character after the last letter that is a digit, here 'w'
abbrev pub after_letters : ℕ
after_letters = first_letter + (symbol_count - letters_from)

-- from `first` up to and not including `after`
abbrev pub among : ℕ → ℕ → ℕ → Bool
among first after b = leb first b && ltb b after

-- the symbol of a character
unfoldable pub symbol_of : ℕ → ℕ
symbol_of b =
    cond (among first_number (first_number + letters_from) b) (b - first_number)
    (cond (among first_letter after_letters b) (letters_from + (b - first_letter))
    symbol_count)

-- the symbols of a line's characters
abbrev pub symbols_of : List ℕ → List ℕ
symbols_of bs = map (λ (b : ℕ). symbol_of b) bs

-- the character of a symbol; a question mark where there is none
unfoldable pub digit_of : ℕ → ℕ
digit_of s = cond (ltb s letters_from) (first_number + s) (cond (ltb s symbol_count) (first_letter + (s - letters_from)) 63)

abbrev symbols : List ℕ
symbols = up_from 0 symbol_count

-- a symbol's character is read as that symbol again
pub read_back : map (λ (s : ℕ). symbol_of (digit_of s)) symbols ≡ symbols
unfolding symbol_of digit_of
read_back = refl

-- where the digits begin and end: '0', '9', 'a', 'f', 'g' and 'v'
pub first_and_last : map symbol_of (48 ∷ 57 ∷ 97 ∷ 102 ∷ 103 ∷ 118 ∷ []) ≡ 0 ∷ 9 ∷ 10 ∷ 15 ∷ 16 ∷ 31 ∷ []
unfolding symbol_of
first_and_last = refl

-- newline, carriage return, blank, two capitals and a byte above 127 are no symbols; nor are the characters beside the digits, '/', ':', '`' and 'w'
pub no_symbols : map symbol_of (10 ∷ 13 ∷ 0 ∷ 32 ∷ 65 ∷ 86 ∷ 200 ∷ 47 ∷ 58 ∷ 96 ∷ 119 ∷ []) ≡ replicate 11 32
unfolding symbol_of
no_symbols = refl
