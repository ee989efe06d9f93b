-- Document 02, No. 7: a line "has tab-separated decimal numbers". A line's fields are what stands between its tabs.
use Rattle.std.specs.Prelude.{ℕ, ◌+◌, ◌-◌, ◌*◌, List, [], ◌∷◌, Bool, true, false, ◌&&◌, not, cond, length, leb, eqb}

-- the bytes that mean something in a text
abbrev pub tab : ℕ
tab = 9

abbrev pub newline : ℕ
newline = 10

abbrev pub digit_zero : ℕ
digit_zero = 48

abbrev pub digit_nine : ℕ
digit_nine = 57

-- what stands before the first b
unfoldable pub before : ℕ → List ℕ → List ℕ
before b [] = []
before b (x ∷ s) = elim (eqb x b) [ true ↦ [] | false ↦ x ∷ before b s ]

-- what stands after the first b; nothing where there is none
unfoldable pub past : ℕ → List ℕ → List ℕ
past b [] = []
past b (x ∷ s) = elim (eqb x b) [ true ↦ s | false ↦ past b s ]

-- how often b stands in s
unfoldable pub count : ℕ → List ℕ → ℕ
count b [] = 0
count b (x ∷ s) = cond (eqb x b) 1 0 + count b s

unfoldable pub field_count : List ℕ → ℕ
field_count l = 1 + count tab l

abbrev pub field1 : List ℕ → List ℕ
field1 l = before tab l

abbrev pub field2 : List ℕ → List ℕ
field2 l = before tab (past tab l)

abbrev pub field3 : List ℕ → List ℕ
field3 l = before tab (past tab (past tab l))

abbrev pub digit : ℕ → Bool
digit x = leb digit_zero x && leb x digit_nine

unfoldable pub digits : List ℕ → Bool
digits [] = true
digits (x ∷ f) = digit x && digits f

-- a decimal number has a digit at least; zeros may lead
unfoldable pub is_number : List ℕ → Bool
is_number f = not (eqb (length f) 0) && digits f

-- the digits f after those that are worth v
unfoldable pub value_from : ℕ → List ℕ → ℕ
value_from v [] = v
value_from v (x ∷ f) = value_from (v * 10 + (x - digit_zero)) f

unfoldable pub value : List ℕ → ℕ
value f = value_from 0 f

-- "18 not such a line or a state above 65,535"
abbrev pub most_state : ℕ
most_state = 65535
