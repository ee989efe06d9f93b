-- Document 01, "The book" and "Reply numbers": the records, their lengths, and the tests of each kind in their order.
-- `cond t r rest` is the reply r where the test t holds, else what the later tests give; 0 is no refusal.
-- A `Scan` is what was given before the record: the counts of rules, states and arcs, the number of the first state
-- of the latest rule, and the part of each state.
use Rattle.std.specs.Prelude.{ℕ, zero, suc, ◌+◌, ◌-◌, List, [], ◌∷◌, ◌++◌, Bool, true, false, not, ◌&&◌, cond, length, drop, get_or, replicate, ltb, leb, eqb}
use Rattle.book.specs.declared.Scan.{Scan}

-- "Numbers: symbols 0 to 15", and since document 02, No. 6, "Symbols run from 0 to 31"; "rules 1 to 16; states at most 64; arcs at most 512"; "length
-- 0 to 8 of the replacement"
abbrev pub symbol_count : ℕ
symbol_count = 32

abbrev pub most_rules : ℕ
most_rules = 16

abbrev pub most_states : ℕ
most_states = 64

abbrev pub most_arcs : ℕ
most_arcs = 512

abbrev pub longest_word : ℕ
longest_word = 8

-- the kinds of a record
abbrev pub rule_kind : ℕ
rule_kind = 1

abbrev pub state_kind : ℕ
state_kind = 2

abbrev pub arc_kind : ℕ
arc_kind = 3

abbrev pub end_kind : ℕ
end_kind = 4

-- "part (0 left, 1 focus, 2 right); flags (1 start, 2 accept, 3 both, 0 neither)"
abbrev pub left_part : ℕ
left_part = 0

abbrev pub focus_part : ℕ
focus_part = 1

abbrev pub right_part : ℕ
right_part = 2

abbrev pub start_flag : ℕ
start_flag = 1

abbrev pub accept_flag : ℕ
accept_flag = 2

abbrev pub both_flags : ℕ
both_flags = 3

-- the length of each kind's record: its kind byte, and the body of 9, 2, 4 bytes or none
abbrev pub rule_size : ℕ
rule_size = 10

abbrev pub state_size : ℕ
state_size = 3

abbrev pub arc_size : ℕ
arc_size = 5

abbrev pub end_size : ℕ
end_size = 1

-- where the fields stand in a record: a rule's length and symbols, a state's part and flags, an arc's four
abbrev pub length_at : ℕ
length_at = 1

abbrev pub symbols_at : ℕ
symbols_at = 2

abbrev pub part_at : ℕ
part_at = 1

abbrev pub flags_at : ℕ
flags_at = 2

abbrev pub from_at : ℕ
from_at = 1

abbrev pub low_at : ℕ
low_at = 2

abbrev pub high_at : ℕ
high_at = 3

abbrev pub to_at : ℕ
to_at = 4

-- the byte at a place, 0 past the end
abbrev pub byte : List ℕ → ℕ → ℕ
byte s i = get_or s i 0

-- "Entries past a count are 0": the list with zeros after it, n in all
unfoldable pub pad : ℕ → List ℕ → List ℕ
pad n l = l ++ replicate (n - length l) 0

-- a list written over the front of another: "Acceptance writes only the front of each output buffer."
abbrev pub onto : List ℕ → List ℕ → List ℕ
onto v l = v ++ drop (length v) l

-- numbers by first appearance, of sets and of a text's states: the first place of x, or the list's length where it is not there, which is then the next
-- number
unfoldable pub idx : List ℕ → ℕ → ℕ
idx [] x = 0
idx (y ∷ S) x = elim (eqb y x) [ true ↦ 0 | false ↦ suc (idx S x) ]

-- "one byte of kind, then a body whose length the kind fixes": the length with the kind byte; 0 for an unknown kind
unfoldable pub record_size : ℕ → ℕ
record_size kind =
    cond (eqb kind rule_kind) rule_size
    (cond (eqb kind state_kind) state_size
    (cond (eqb kind arc_kind) arc_size
    (cond (eqb kind end_kind) end_size
    0)))

-- "eight symbol bytes; unused ones are 0": byte i of a word of n symbols
unfoldable pub symbol_fits : ℕ → ℕ → ℕ → Bool
symbol_fits n i x = cond (ltb i n) (ltb x symbol_count) (eqb x 0)

-- the first i symbol bytes of a word of n that starts at p
unfoldable pub symbols_fit : List ℕ → ℕ → ℕ → ℕ → Bool
symbols_fit s p n zero = true
symbols_fit s p n (suc i) = symbols_fit s p n i && symbol_fits n i (byte s (p + i))

-- a rule at place `at`, after `rules` rules: 3, 5
unfoldable pub rule_reply : List ℕ → ℕ → ℕ → ℕ
rule_reply s at rules =
    cond (leb most_rules rules) 3
    (cond (ltb longest_word (byte s (at + length_at))) 5
    (cond (not (symbols_fit s (at + symbols_at) (byte s (at + length_at)) longest_word)) 5
    0))

-- a state, after `rules` rules and `states` states: 4, 3, 5; since document 02, No. 5, "7 is no longer given"
unfoldable pub state_reply : ℕ → ℕ → ℕ → ℕ → ℕ
state_reply part flags rules states =
    cond (eqb rules 0) 4
    (cond (leb most_states states) 3
    (cond (ltb right_part part) 5
    (cond (ltb both_flags flags) 5 0)))

-- state k stands in the latest rule, whose states are those from `first` up to and not including `states`
unfoldable pub given : ℕ → ℕ → ℕ → Bool
given first states k = leb first k && ltb k states

-- an arc: 4, 3, 5, 6
unfoldable pub arc_reply : ℕ → ℕ → ℕ → ℕ → Scan → ℕ
arc_reply from low high to g =
    cond (eqb g.rules 0) 4
    (cond (leb most_arcs g.arcs) 3
    (cond (leb symbol_count high) 5
    (cond (ltb high low) 5
    (cond (not (given g.first g.states from)) 6
    (cond (not (given g.first g.states to)) 6
    (cond (not (eqb (byte g.parts from) (byte g.parts to))) 6
    0))))))

-- the end: 4
unfoldable pub end_reply : ℕ → ℕ
end_reply rules = cond (eqb rules 0) 4 0

-- what stands in a record, by its kind
abbrev pub by_kind {ℓ} : {A : Type ℓ} → ℕ → A → A → A → A → A
by_kind k rule state arc end = cond (eqb k rule_kind) rule (cond (eqb k state_kind) state (cond (eqb k arc_kind) arc end))

-- the kind's own tests of the record at `at`
unfoldable pub kind_reply : List ℕ → ℕ → Scan → ℕ
kind_reply s at g =
    by_kind (byte s at)
    (rule_reply s at g.rules)
    (state_reply (byte s (at + part_at)) (byte s (at + flags_at)) g.rules g.states)
    (arc_reply (byte s (at + from_at)) (byte s (at + low_at)) (byte s (at + high_at)) (byte s (at + to_at)) g)
    (end_reply g.rules)

-- "In one record: missing kind 1, then 2, cut body 1, then 4, 3, 5, 6", and 7 before document 02, No. 5: the reply on the record at `at`
unfoldable pub record_reply : List ℕ → ℕ → Scan → ℕ
record_reply s at g =
    cond (leb (length s) at) 1
    (cond (eqb (record_size (byte s at)) 0) 2
    (cond (ltb (length s) (at + record_size (byte s at))) 1
    (kind_reply s at g)))
