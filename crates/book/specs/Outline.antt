-- The outline of an accepted book, computed once from its bytes: where the records of its states and of its rules stand, and the sets of
-- the states of a part that start or accept, of each rule and of all.
use Rattle.std.specs.Prelude.{ℕ, zero, suc, ◌+◌, ◌*◌, ◌^◌, ◌≤◌, ◌<◌, ◌≡◌, List, [], ◌∷◌, ◌++◌, Bool, true, false, cond, ◌&&◌, ◌||◌, eqb, length, get_or}
use Rattle.std.specs.Int.Bits.{bit_or}
use Rattle.book.specs.Format.{most_rules, most_states, longest_word, rule_kind, state_kind, end_kind, rule_size, length_at, byte, pad, record_size}
use Rattle.book.specs.Format.{part_at, flags_at, left_part, focus_part, right_part, start_flag, accept_flag}
use Rattle.book.specs.Reading.{State, word_at}
use Rattle.book.specs.Language.{no_state, flagged, is_of}
use Rattle.book.specs.StateSets.{encode}

-- the offsets of the records of that kind, among those from `at` on up to the end record; at most n records
unfoldable pub places_from : ℕ → ℕ → List ℕ → ℕ → List ℕ
places_from kind zero s at = []
places_from kind (suc n) s at =
    elim (eqb (byte s at) end_kind) [
      | true ↦ []
      | false ↦ cond (eqb (byte s at) kind) (at ∷ []) [] ++ places_from kind n s (at + record_size (byte s at))
    ]

-- those of a book, in their order
unfoldable pub places_of : ℕ → List ℕ → List ℕ
places_of kind s = places_from kind (suc (length s)) s 0

-- where each state's record stands, each rule's; 0 where there is none
abbrev pub state_places : List ℕ → List ℕ
state_places s = pad most_states (places_of state_kind s)

abbrev pub rule_places : List ℕ → List ℕ
rule_places s = pad most_rules (places_of rule_kind s)

-- each state's place stands in the array; 0 where there is no state
abbrev pub Placed : List State → List ℕ → Type 0
Placed states l = (k : ℕ) → get_or l k 0 ≡ (get_or states k no_state).place

-- a rule's record stands at `at`, whole, with its word's length
pub record WordRoom (book : List ℕ) (at : ℕ) : Type 0 where
  pub whole : at + rule_size ≤ length book
  pub short : byte book (at + length_at) ≤ longest_word

-- that of the word w
pub record WordAt (book w : List ℕ) (at : ℕ) : Type 0 where
  pub room : WordRoom book at
  pub is : w ≡ word_at book at

-- each rule's record stands where the array says
abbrev pub WordsAt : List ℕ → List (List ℕ) → List ℕ → Type 0
WordsAt book words places = (r : ℕ) → r < length words → WordAt book (get_or words r []) (get_or places r 0)

-- a state's record with that part and that flag
abbrev pub passes : ℕ → ℕ → ℕ → ℕ → Bool
passes part flag p f = eqb p part && flagged flag f

-- the states of rule r, of that part and flag; those of every rule
unfoldable pub rule_mask : ℕ → ℕ → List State → ℕ → ℕ
rule_mask part flag states r = encode (λ k. eqb (get_or states k no_state).rule r && is_of part flag (get_or states k no_state)) most_states

unfoldable pub all_mask : ℕ → ℕ → List State → ℕ
all_mask part flag states = encode (λ k. is_of part flag (get_or states k no_state)) most_states

-- The masks stand in one array: where the left accepts, the focus starts, the focus accepts and the right starts of rule r stand; then the
-- focus starts, the focus accepts, the left starts and the right accepts of all rules.
abbrev pub left_accepts : ℕ → ℕ
left_accepts r = r

abbrev pub focus_starts : ℕ → ℕ
focus_starts r = most_rules + r

abbrev pub focus_accepts : ℕ → ℕ
focus_accepts r = 2 * most_rules + r

abbrev pub right_starts : ℕ → ℕ
right_starts r = 3 * most_rules + r

abbrev pub all_starts : ℕ
all_starts = 4 * most_rules

abbrev pub all_accepts : ℕ
all_accepts = all_starts + 1

abbrev pub left_starts : ℕ
left_starts = all_starts + 2

abbrev pub right_accepts : ℕ
right_accepts = all_starts + 3

abbrev pub mask_count : ℕ
mask_count = all_starts + 4

-- what stands for each rule is the mask of its states of that part and flag
abbrev pub EachMask : ℕ → ℕ → List State → (ℕ → ℕ) → Type 0
EachMask part flag states mask = (r : ℕ) → r < most_rules → mask r ≡ rule_mask part flag states r

-- the masks of these states
pub record Masked (states : List State) (masks : List ℕ) : Type 0 where
  pub long : length masks ≡ mask_count
  -- a rule's left context holds at i exactly where the left set there meets this mask
  pub left_accepts_lem : EachMask left_part accept_flag states (λ r. get_or masks (left_accepts r) 0)
  -- then the walk from i starts with these states
  pub focus_starts_lem : EachMask focus_part start_flag states (λ r. get_or masks (focus_starts r) 0)
  -- a stretch is in the rule's focus language exactly where the walk's set at its end meets this mask
  pub focus_accepts_lem : EachMask focus_part accept_flag states (λ r. get_or masks (focus_accepts r) 0)
  -- its right context holds at j exactly where the right set there meets this mask
  pub right_starts_lem : EachMask right_part start_flag states (λ r. get_or masks (right_starts r) 0)
  -- where the right set does not meet it, no candidate starts
  pub all_starts_lem : get_or masks all_starts 0 ≡ all_mask focus_part start_flag states
  -- where the walk's set does not meet it, no candidate ends
  pub all_accepts_lem : get_or masks all_accepts 0 ≡ all_mask focus_part accept_flag states
  -- the first left set, and what every later one has anew
  pub left_starts_lem : get_or masks left_starts 0 ≡ all_mask left_part start_flag states
  -- the same of the right sets, before a focus is closed
  pub right_accepts_lem : get_or masks right_accepts 0 ≡ all_mask right_part accept_flag states

-- every mask with `more` put to it
pub record Joined (more : ℕ → ℕ) (l l' : List ℕ) : Type 0 where
  pub same : length l' ≡ length l
  pub each : (j : ℕ) → get_or l' j 0 ≡ bit_or (get_or l j 0) (more j)

-- mask j holds a state of rule r with that part and those flags: among the masks of its rule, and among those of all rules
unfoldable pub in_rule : ℕ → ℕ → ℕ → ℕ → Bool
in_rule p f r j =
    eqb j (left_accepts r) && passes left_part accept_flag p f
    || eqb j (focus_starts r) && passes focus_part start_flag p f
    || eqb j (focus_accepts r) && passes focus_part accept_flag p f
    || eqb j (right_starts r) && passes right_part start_flag p f

unfoldable pub in_all : ℕ → ℕ → ℕ → Bool
in_all p f j =
    eqb j all_starts && passes focus_part start_flag p f
    || eqb j all_accepts && passes focus_part accept_flag p f
    || eqb j left_starts && passes left_part start_flag p f
    || eqb j right_accepts && passes right_part accept_flag p f

-- what state k of rule r, whose record stands at `at`, adds to each mask
unfoldable pub state_bits : List ℕ → ℕ → ℕ → ℕ → ℕ → ℕ
state_bits s at k r j =
    let p = byte s (at + part_at) in
    let f = byte s (at + flags_at) in
    cond (in_rule p f r j || in_all p f j) (2 ^ k) 0
