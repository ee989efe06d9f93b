-- Document 01's sentences on taken starts, verdicts, order, output and origins, as statements over the candidates; no contract uses them.
-- "No start is taken twice" is of document 02, No. 5.
use Rattle.std.specs.Prelude.{ℕ, zero, suc, ◌+◌, ◌-◌, ◌≤◌, ◌<◌, Bool, true, false, ◌&&◌, cond, ◌≡◌, ◌↔◌, ◌≢◌, T, eqb, leb, ltb, length, get_or, drop, replicate}
use mathlib.Core.List.{List, [], ◌∷◌, ◌++◌, Memᴰ}
use Rattle.std.proofs.Math.Seq.{slice}
use Rattle.book.specs.Language.{Rules, any, up_from}
use Rattle.stretches.specs.Candidates.{Stretch, candidate, rule_of, taken}
use Rattle.stretches.specs.Output.{Mark, kept_marks, last_position, word_marks, rule_word, written}
use Rattle.stretches.specs.Account.{Line, judge, each}

-- 1. taken starts

-- the stretch from i to j is a candidate of the rule r
pub record Candidate (b : Rules) (t : List ℕ) (i j r : ℕ) : Type 0 where
  pub ordered : i ≤ j
  pub inside : j ≤ length t
  pub known : r < length b.words
  pub holds : T (candidate b t i j r)

-- i is a candidate start
pub record Start (b : Rules) (t : List ℕ) (i : ℕ) : Type 0 where
  pub to : ℕ
  pub rule : ℕ
  pub candidate : Candidate b t i to rule

-- "the smallest candidate start"
pub record First (b : Rules) (t : List ℕ) (i : ℕ) : Type 0 where
  pub start : Start b t i
  pub least : (k : ℕ) → Start b t k → i ≤ k

-- k is "the smallest candidate start that is at or after the end of the stretch just taken", from i to j, and not i
pub record Next (b : Rules) (t : List ℕ) (i j k : ℕ) : Type 0 where
  pub after : j ≤ k
  pub other : k ≢ i
  pub start : Start b t k
  pub least : (x : ℕ) → j ≤ x → x ≢ i → Start b t x → k ≤ x

-- "At a taken start the longest candidate is taken; among equal stretches, the lowest rule number"
pub record Chosen (b : Rules) (t : List ℕ) (i j r : ℕ) : Type 0 where
  pub candidate : Candidate b t i j r
  pub longest : (k q : ℕ) → Candidate b t i k q → k ≤ j
  pub lowest : (q : ℕ) → Candidate b t i j q → r ≤ q

-- "Taken starts: the smallest candidate start; then, again and again, the smallest candidate start that is at or after the end of the stretch
-- just taken"
pub data Taken (b : Rules) (t : List ℕ) : ℕ → ℕ → ℕ → Type 0 where
  first : {i j r : ℕ} → First b t i → Chosen b t i j r → Taken b t i j r
  next : {i j r k l q : ℕ} → Taken b t i j r → Next b t i j k → Chosen b t k l q → Taken b t k l q

-- document 02, No. 5, "no start is taken twice": each start is past the one before, the first at a or later
abbrev pub Rising : ℕ → List Stretch → Type 0
Rising a [] = Unit {0}
Rising a (d ∷ ds) = (a ≤ d.start) × Rising (suc d.start) ds

-- the walk of Candidates.antt takes the stretch from i to j
abbrev pub Takes : Rules → List ℕ → ℕ → ℕ → Type 0
Takes b t i j = Memᴰ (record { start = i; end = j; taken = true }) (taken b t)

-- and r is the rule by which it is taken
abbrev pub TakesBy : Rules → List ℕ → ℕ → ℕ → ℕ → Type 0
TakesBy b t i j r = Takes b t i j × (r ≡ rule_of b t i j)

-- 2. the account

-- "Order: start, end, rule"
pub data Before (l m : Line) : Type 0 where
  start : l.start < m.start → Before l m
  end : l.start ≡ m.start → l.end < m.end → Before l m
  rule : l.start ≡ m.start → l.end ≡ m.end → l.rule < m.rule → Before l m

-- each line is before all that follow
abbrev pub Sorted : List Line → Type 0
Sorted [] = Unit {0}
Sorted (l ∷ ls) = ((m : Line) → Memᴰ m ls → Before l m) × Sorted ls

-- two lines of one candidate
pub record SameCandidate (l m : Line) : Type 0 where
  pub start : l.start ≡ m.start
  pub end : l.end ≡ m.end
  pub rule : l.rule ≡ m.rule

-- line k, counted from 0
abbrev pub line_number : List Line → ℕ → Line
line_number ls k = get_or ls k (judge 0 0 0 0 0 0)

-- the sum of f over the numbers from a on, n of them
abbrev pub sum : (ℕ → ℕ) → ℕ → ℕ → ℕ
sum f a zero = 0
sum f a (suc n) = f a + sum f (suc a) n

-- how many candidates there are: 1 or 0 for each start, each end from it to n, and each rule
abbrev pub candidate_count : Rules → List ℕ → ℕ
candidate_count b t =
    sum (λ (i : ℕ). sum (λ (j : ℕ). sum (λ (r : ℕ). cond (candidate b t i j r) 1 0) 0 (length b.words)) i (suc (length t) - i))
    0
    (suc (length t))

-- "Verdicts: 0 taken; 1 shorter than the taken one at the same start; 2 same stretch, lower rule taken; 3 start strictly inside a taken stretch.
-- The deciding start is that of the taken stretch, its own for 0": exactly one of the four, and what each says. Document 02, No. 1: "A sixth word
-- gives the rule of the deciding stretch (its own for verdict 0)": for 1 the rule taken at the same start, for 2 the lower rule, for 3 the rule of
-- the taken stretch around the start
pub record Judged (b : Rules) (t : List ℕ) (l : Line) : Type 0 where
  pub taken_one : (l.verdict ≡ 0) ↔ TakesBy b t l.start l.end l.rule
  pub shorter : (l.verdict ≡ 1) ↔ ((e : ℕ) × Takes b t l.start e × (l.end < e))
  pub lower_rule : (l.verdict ≡ 2) ↔ (Takes b t l.start l.end × (rule_of b t l.start l.end < l.rule))
  pub inside : (l.verdict ≡ 3) ↔ ((e : ℕ) × Takes b t l.deciding e × (l.deciding < l.start) × (l.start < e))
  pub one_of : l.verdict < 4
  pub deciding_taken : (e : ℕ) × TakesBy b t l.deciding e l.deciding_rule
  pub deciding_own : l.verdict < 3 → l.deciding ≡ l.start
  pub rule_own : l.verdict ≡ 0 → l.deciding_rule ≡ l.rule
  pub rule_longer : l.verdict ≡ 1 → (e : ℕ) × TakesBy b t l.start e l.deciding_rule × (l.end < e)
  pub rule_lower : l.verdict ≡ 2 → TakesBy b t l.start l.end l.deciding_rule × (l.deciding_rule < l.rule)
  pub rule_around : l.verdict ≡ 3 → (e : ℕ) × TakesBy b t l.deciding e l.deciding_rule × (l.deciding < l.start) × (l.start < e)

-- line k of the account is that of the stretch that decides l: marked 0, with l's deciding start and rule
pub record Decides (ls : List Line) (l : Line) (k : ℕ) : Type 0 where
  pub within : k < length ls
  pub marked : (line_number ls k).verdict ≡ 0
  pub start : (line_number ls k).start ≡ l.deciding
  pub rule : (line_number ls k).rule ≡ l.deciding_rule

-- the lines with verdict 0
abbrev pub taken_lines : List Line → List Line
taken_lines [] = []
taken_lines (l ∷ ls) = cond (eqb l.verdict 0) (l ∷ taken_lines ls) (taken_lines ls)

-- the line of a taken stretch
abbrev pub line_of : Rules → List ℕ → Stretch → Line
line_of b t d = let r = rule_of b t d.start d.end in judge d.start d.end r 0 d.start r

-- the lines follow one another from position a on: each starts at or after the end of the one before
abbrev pub Chain : List ℕ → ℕ → List Line → Type 0
Chain t a [] = Unit {0}
Chain t a (l ∷ ls) = (a ≤ l.start) × (l.start ≤ l.end) × (l.end ≤ length t) × Chain t l.end ls

-- 3. the output

-- the symbols from a on, n of them, as they stand
abbrev pub kept_from : List ℕ → ℕ → ℕ → List Mark
kept_from t a n = each (λ (i : ℕ). kept_marks (get_or t i 0 ∷ []) i) a n

-- "The output replaces each taken stretch by its rule's word and keeps the rest", from position a on
abbrev pub replace : Rules → List ℕ → ℕ → List Line → List Mark
replace b t a [] = kept_from t a (length t - a)
replace b t a (l ∷ ls) = kept_from t a (l.start - a) ++ (word_marks (rule_word b l.rule) l.start l.end ++ replace b t l.end ls)

-- how many symbols the lines take away, and how many they write
abbrev pub removed : List Line → ℕ
removed [] = 0
removed (l ∷ ls) = (l.end - l.start) + removed ls

abbrev pub writes : Rules → List Line → ℕ
writes b [] = 0
writes b (l ∷ ls) = length (rule_word b l.rule) + writes b ls

-- some stretch of the list covers position i
abbrev pub covered : List Stretch → ℕ → Bool
covered ds i = any (λ (d : Stretch). leb d.start i && ltb i d.end) ds

-- "keeps the rest", "a kept symbol its own position": the symbols that no taken stretch covers, in the tape's order
abbrev pub kept_symbols : Rules → List ℕ → List Mark
kept_symbols b t = each (λ (i : ℕ). cond (covered (taken b t) i) [] (kept_marks (get_or t i 0 ∷ []) i)) 0 (length t)

-- the words of stretches, in their order
abbrev pub written_words : Rules → List ℕ → List Stretch → List Mark
written_words b t [] = []
written_words b t (d ∷ ds) = written b t d.start d.end ++ written_words b t ds

-- the third list is made of the first two, each in its own order
pub data Shuffled : List Mark → List Mark → List Mark → Type 0 where
  none : Shuffled [] [] []
  left : {x : Mark} {xs ys zs : List Mark} → Shuffled xs ys zs → Shuffled (x ∷ xs) ys (x ∷ zs)
  right : {y : Mark} {xs ys zs : List Mark} → Shuffled xs ys zs → Shuffled xs (y ∷ ys) (y ∷ zs)

-- 4. the output's symbols and its origins, each as a list of its own

-- "The output replaces each taken stretch by its rule's word and keeps the rest", from position a on
abbrev pub symbols_from : Rules → List ℕ → ℕ → List Line → List ℕ
symbols_from b t a [] = drop a t
symbols_from b t a (l ∷ ls) = slice a l.start t ++ (rule_word b l.rule ++ symbols_from b t l.end ls)

-- document 02, No. 4, "When a replacement has two or more symbols, the last one's origin is the last position of the stretch; the others keep the
-- start": the origins of n symbols that stand for the stretch from i to j
abbrev pub word_origins : ℕ → ℕ → ℕ → List ℕ
word_origins zero i j = []
word_origins (suc zero) i j = i ∷ []
word_origins (suc (suc n)) i j = replicate (suc n) i ++ (last_position i j ∷ [])

-- "a kept symbol its own position", and the words in their places, from position a on
abbrev pub origins_from : Rules → List ℕ → ℕ → List Line → List ℕ
origins_from b t a [] = up_from a (length t - a)
origins_from b t a (l ∷ ls) =
    up_from a (l.start - a) ++ (word_origins (length (rule_word b l.rule)) l.start l.end ++ origins_from b t l.end ls)

-- m is symbol k of the word w, which stands for the stretch from i to j: "When a replacement has two or more symbols, the last one's origin is the
-- last position of the stretch; the others keep the start"
pub record Spelled (w : List ℕ) (i j k : ℕ) (m : Mark) : Type 0 where
  pub within : k < length w
  pub symbol : m.symbol ≡ get_or w k 0
  pub one : length w ≡ 1 → m.origin ≡ i
  pub last : 1 < length w → suc k ≡ length w → m.origin ≡ last_position i j
  pub other : suc k < length w → m.origin ≡ i

-- what one output symbol is: a symbol that no taken stretch covers, with its own position; or one of the word of a taken stretch
pub data Traced (b : Rules) (t : List ℕ) (m : Mark) : Type 0 where
  kept : m.origin < length t → covered (taken b t) m.origin ≡ false → m.symbol ≡ get_or t m.origin 0 → Traced b t m
  replaced : (i j k : ℕ) → Takes b t i j → Spelled (rule_word b (rule_of b t i j)) i j k m → Traced b t m

-- no number of the list is below one before it
abbrev pub NeverFalls : List ℕ → Type 0
NeverFalls l = (j k : ℕ) → j ≤ k → k < length l → get_or l j 0 ≤ get_or l k 0
