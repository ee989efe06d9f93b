-- The theorems about rewriting and account, on one page. Read them with Paper.antt (source document 001) and Sentences.antt (document 01) of
-- crates/stretches/specs. No hypothesis on the book or the tape, but where one is named.
use Prim.Native.Nat.{ℕ, ◌+◌, ◌*◌, ◌≤◌, ◌<◌}
use mathlib.Core.List.{List, [], ◌∷◌, ◌++◌, map, Memᴰ}
use mathlib.Core.Path.{◌≡◌, sym, ap, ◌∙◌}
use mathlib.Core.Logic.{◌↔◌, ◌⊎◌}
use mathlib.Core.Bool.{true, false, ◌&&◌}
use lib.ListN.{length, take, drop, get_or}
use lib.Seq.{slice, slice_empty}
use Rattle.book.specs.Format.{symbol_count, longest_word}
use Rattle.book.specs.Reading.{Arc, Book, check_def, book_of}
use Rattle.book.specs.Language.{Rules, rules, rules_in}
use Rattle.book.specs.Before.{high, high_book, check_below, book_below}
use Rattle.book.specs.Unused.{on_no_arc, Blind}
use Rattle.sets.specs.Sets.{left_first, left_next, right_last, right_prev}
use Rattle.sets.specs.Workspace.{row_bytes, set_words, build_def}
use Rattle.sets.specs.Before.{bytes_below, build_below, AsBefore}
use Rattle.stretches.specs.Candidates.{candidate, rule_of, taken}
use Rattle.stretches.specs.Output.{Mark, marks, rule_word, written, rewriting, symbols_of, origins_of}
use Rattle.stretches.specs.Account.{Line, account, line_length, words_in}
use Rattle.stretches.specs.Buffers.{longest_tape, onto}
use Rattle.rewriter.specs.Show.{between, bounds_of, show_def}
use Rattle.rewriter.specs.Replies.{AfterRewrite, rewrite_def, account_def}
use Rattle.rewriter.specs.Races.{Lent, rewrite_call, account_call, OutputRoom, AccountRoom, OutputsJoin, AccountsJoin}
use Rattle.stretches.specs.Paper.{Context, start, end, RC, BookRC, C, Earliest, Over, Overlap, CLM, CLML, RewriteLML}
use Rattle.stretches.specs.Sentences.{Candidate, Taken, Takes, TakesBy, Rising, Sorted, SameCandidate, line_number, candidate_count}
use Rattle.stretches.specs.Sentences.{Judged, Decides, taken_lines, line_of}
use Rattle.stretches.specs.Sentences.{Chain, replace, removed, writes, covered, kept_symbols, written_words, Shuffled}
use Rattle.stretches.specs.Sentences.{symbols_from, origins_from, Traced, NeverFalls}
use Rattle.stretches.specs.Before.{replace_at_starts, ShortWords, rules_below}
use Rattle.stretches.specs.Books.{book_p}
use Rattle.stretches.specs.Table.{rewritten, rows, tape8, table}
use Rattle.stretches.specs.Times.{timed, both_times}
use Rattle.stretches.specs.Insertions.{worked, insertions, inserted}
use Rattle.stretches.specs.Markers.{races, races_worked}
use Rattle.stretches.specs.Races.{joined, beyond, marker, later, moved, shifted}
use Rattle.output.specs.Passes.{most_output}
use Rattle.stretches.proofs.Greedy as Greedy
use Rattle.stretches.proofs.Walks as Walks
use Rattle.stretches.proofs.Stretches as Stretches
use Rattle.stretches.proofs.Rewritings as Rewritings
use Rattle.stretches.proofs.Sorting as Sorting
use Rattle.stretches.proofs.Accounts as Accounts
use Rattle.stretches.proofs.Replaced as Replaced
use Rattle.stretches.proofs.Lengths as Lengths
use Rattle.stretches.proofs.Kept as Kept
use Rattle.stretches.proofs.Origins as Origins
use Rattle.stretches.proofs.Rising as Rising
use Rattle.stretches.proofs.Before as Before
use Rattle.stretches.proofs.Agreeing as Agreeing
use Rattle.stretches.proofs.RacesJoin as RacesJoin
use Rattle.book.proofs.Before as BookBefore
use Rattle.book.proofs.Unused as Unused
use Rattle.sets.proofs.Before as SetsBefore
use Rattle.stretches.proofs.WordMarks as WordMarks
use Rattle.stretches.proofs.Counts as Counts
use Rattle.stretches.proofs.Batches as Batches
use Rattle.output.proofs.Limits as Limits
use Rattle.rewriter.proofs.Showing as Showing
use Rattle.rewriter.proofs.ShownAfter as ShownAfter
use Rattle.rewriter.proofs.TimesAfter as TimesAfter
use Rattle.rewriter.proofs.Races as Races

-- 0. The proved table: cases 1 to 11 of document 01, from the books' bytes. (P's account of case 8 is `account8` beside it.)
pub proved_table : map rewritten rows ≡ rows
proved_table = table

-- A row beside it, with words of two and of three symbols (document 02, No. 4).
pub timed_row : rewritten timed ≡ timed
timed_row = both_times

-- Marks put in without removing anything (document 02, No. 5): outputs, origins and accounts.
pub proved_insertions : map worked insertions ≡ insertions
proved_insertions = inserted

-- Two races on one tape (document 02, No. 8), alone and joined. (Which symbols are on no arc of their books is `free_symbols` beside it.)
pub proved_races : map worked races ≡ races
proved_races = races_worked

-- 1. Source document 001.

-- 3.2: the rules of a book are a batch, its languages those of the book's parts
pub a_batch : (b : Book) (t : List ℕ) (r : ℕ) (c : Context) → BookRC b t r c ↔ RC (rules b) t r c
a_batch = Batches.book_rc

-- the remark after 3.5
pub overlap_is_over : (c d : Context) → Overlap c d ↔ (Over c d ⊎ Over d c)
overlap_is_over = Greedy.overlap_over

-- example 3.8: C_LML of case 8 has just the contexts from 1 to 6 and from 8 to 10
pub example_8 : (i j : ℕ) → ((c : Context) × CLML (rules_in book_p) tape8 c × (start c ≡ i) × (end c ≡ j))
    ↔ Memᴰ (Stretches.stretch i j) (Stretches.stretch 1 6 ∷ Stretches.stretch 8 10 ∷ [])
example_8 = Batches.example8

module _ (b : Rules) (t : List ℕ) where
  -- 3.9, the remark after it, 3.10, the end of 3.11's proof, 3.11: the paper's own propositions hold of 3.6 as reconstructed
  pub prop_9 : (c d : Context) → CLM b t c → CLM b t d → Overlap c d → ⊥
  prop_9 = Greedy.no_overlap (Walks.walk b t) b t (Walks.reads b t)

  pub remark_9 : (c d : Context) → CLML b t c → CLML b t d → start c ≡ start d → length c.v ≡ length d.v
  remark_9 = Greedy.one_length (Walks.walk b t) b t (Walks.reads b t)

  pub prop_10 : (c d : Context) → C b t c → C b t d → start c ≡ start d → CLM b t c → CLM b t d
  prop_10 = Greedy.same_start (Walks.walk b t) b t (Walks.reads b t)

  pub remark_11 : (c : Context) → CLM b t c → (d : Context) × CLML b t d × (start d ≡ start c) × (length c.v ≤ length d.v)
  remark_11 = Greedy.longest_beside (Walks.walk b t) b t (Walks.reads b t)

  pub prop_11 : (c : Context) → C b t c → (CLM b t c → ⊥) → (d : Context) × CLML b t d × Over c d
  prop_11 = Greedy.over_one (Walks.walk b t) b t (Walks.reads b t)

  -- 3.7: the stretches taken are the contexts of C_LML
  pub taken_is_lml : (i j : ℕ) → Takes b t i j ↔ ((c : Context) × CLML b t c × (start c ≡ i) × (end c ≡ j))
  taken_is_lml = Stretches.taken_paper b t

  -- 3.4: the rule whose word is written is earliest(t, BR)(c)
  pub rule_is_earliest : (c : Context) → CLML b t c → Earliest b t c (rule_of b t (start c) (end c))
  rule_is_earliest = Stretches.rule_paper b t

  -- 3.12: the rewriting is Rewrite_LML(BR, t), and nothing else is
  pub rewriting_is_lml : (out : List Mark) → RewriteLML b t out ↔ (out ≡ rewriting b t)
  rewriting_is_lml = Rewritings.rewriting_paper b t

  -- 2. Document 01, "Taken starts": the same stretches and rules.
  pub sentence_is_taken : (i j r : ℕ) → Taken b t i j r ↔ (Takes b t i j × (r ≡ rule_of b t i j))
  sentence_is_taken = Stretches.sentence_taken b t

  pub sentence_is_lml : (i j r : ℕ) → Taken b t i j r ↔ ((c : Context) × CLML b t c × Earliest b t c r × (start c ≡ i) × (end c ≡ j))
  sentence_is_lml = Stretches.sentence_paper b t

  -- document 02, No. 5: "The focus may now be empty and a candidate's start equal its end": where both contexts hold
  pub empty_candidate : (i r : ℕ) → candidate b t i i r ≡ (b.focus r [] && b.left r (take i t) && b.right r (drop i t))
  unfolding candidate
  empty_candidate i r = ap (λ (w : List ℕ). b.focus r w && b.left r (take i t) && b.right r (drop i t)) (slice_empty i t)

  -- "no start is taken twice"
  pub starts_rise : Rising 0 (taken b t)
  starts_rise = Stretches.taken_rising b t

  -- 3. Document 01, the output: "replaces each taken stretch by its rule's word and keeps the rest".
  pub output_replaces : rewriting b t ≡ replace b t 0 (map (line_of b t) (taken b t))
  output_replaces = Replaced.rewriting_replace b t

  -- each symbol that no taken stretch covers is kept, in the tape's order and with its own position as origin; the words are all the rest
  pub kept_in_order : Shuffled (kept_symbols b t) (written_words b t (taken b t)) (rewriting b t)
  kept_in_order = Kept.rewriting_shuffled b t

  -- the same of the symbols alone, stretch by stretch
  pub symbol_each : symbols_of (rewriting b t) ≡ symbols_from b t 0 (taken_lines (account b t))
  symbol_each = Origins.rewriting_symbols b t

  -- "Each output symbol has a 16-bit origin: a kept symbol its own position"; document 02, No. 4: "When a replacement has two or more symbols, the last
  -- one's origin is the last position of the stretch; the others keep the start": all origins, stretch by stretch; what each output symbol is; and
  -- there are as many of the one as of the other
  pub origin_each : origins_of (rewriting b t) ≡ origins_from b t 0 (taken_lines (account b t))
  origin_each = Origins.rewriting_origins b t

  pub mark_each : (m : Mark) → Memᴰ m (rewriting b t) → Traced b t m
  mark_each = Origins.rewriting_traced b t

  pub symbol_count_lem : length (symbols_of (rewriting b t)) ≡ length (rewriting b t)
  symbol_count_lem = Counts.symbols_length (rewriting b t)

  pub origin_count : length (origins_of (rewriting b t)) ≡ length (rewriting b t)
  origin_count = Counts.origins_length (rewriting b t)

  -- document 02, No. 5: "if it is empty, the word is written and the symbol at that position is kept": no stretch covers it; "Every origin of an
  -- inserted word is its position"
  pub inserted_keeps : (i : ℕ) → Takes b t i i → covered (taken b t) i ≡ false
  inserted_keeps = Kept.taken_empty b t

  pub inserted_origins : (i : ℕ) → written b t i i ≡ marks (rule_word b (rule_of b t i i)) i
  inserted_origins i = WordMarks.marks_own (rule_word b (rule_of b t i i)) i

  -- each origin is a position of the tape; or "n at the tape's end", and then a word is put in there
  pub origin_on_tape : (m : Mark) → Memᴰ m (rewriting b t) → (m.origin < length t) ⊎ ((m.origin ≡ length t) × Takes b t (length t) (length t))
  origin_on_tape = Rising.origin_within b t

  -- along the output no origin is below one before it
  pub origins_never_fall : NeverFalls (origins_of (rewriting b t))
  origins_never_fall = Rising.rewriting_rises b t

  -- document 02, No. 4, "Outputs .. stay as they are": the symbols are those of before, with every symbol of a replacement at the start of its stretch;
  -- and where no replacement has two or more symbols, so are the origins
  pub output_as_before : symbols_of (rewriting b t) ≡ symbols_of (replace_at_starts b t 0 (taken_lines (account b t)))
  output_as_before = Before.symbols_before b t

  pub short_as_before : ShortWords b → rewriting b t ≡ replace_at_starts b t 0 (taken_lines (account b t))
  short_as_before = Before.short_before b t

  -- 4. Document 01, the account: each candidate and nothing else
  pub lines_are_candidates : (i j r : ℕ) → Candidate b t i j r ↔ ((l : Line) × Memᴰ l (account b t) × (l.start ≡ i) × (l.end ≡ j) × (l.rule ≡ r))
  lines_are_candidates = Accounts.account_candidates b t

  -- "Order: start, end, rule"; no candidate twice
  pub lines_sorted : Sorted (account b t)
  lines_sorted = Accounts.account_sorted b t

  pub lines_once : (j k : ℕ) → j < length (account b t) → k < length (account b t)
      → SameCandidate (line_number (account b t) j) (line_number (account b t) k) → j ≡ k
  lines_once = Sorting.sorted_once (account b t) (Accounts.account_sorted b t)

  -- as many lines as candidates, so many words a line
  pub line_count : length (account b t) ≡ candidate_count b t
  line_count = Counts.account_length b t

  pub word_count : length (words_in (account b t)) ≡ line_length * length (account b t)
  word_count = Counts.words_length (account b t)

  -- exactly one verdict, and what each says; at the deciding start a stretch is taken, and the deciding rule is the one it is taken by
  pub lines_judged : (l : Line) → Memᴰ l (account b t) → Judged b t l
  lines_judged = Accounts.account_judged b t

  pub deciding_is_taken : (l : Line) → Memᴰ l (account b t) → (e : ℕ) × TakesBy b t l.deciding e l.deciding_rule
  deciding_is_taken l m = (Accounts.account_judged b t l m).deciding_taken

  -- so who reads a line finds the one that beat it: marked 0, with its deciding start and rule. There is such a line, and one alone; the start is
  -- enough to find it.
  pub deciding_line : (l : Line) → Memᴰ l (account b t) → (k : ℕ) × Decides (account b t) l k
  deciding_line = Accounts.account_decided b t

  pub deciding_line_once : (l : Line) (j k : ℕ) → Decides (account b t) l j → Decides (account b t) l k → j ≡ k
  deciding_line_once = Accounts.decided_once b t

  pub zero_start_once : (j k : ℕ) → j < length (account b t) → k < length (account b t) → (line_number (account b t) j).verdict ≡ 0
      → (line_number (account b t) k).verdict ≡ 0 → (line_number (account b t) j).start ≡ (line_number (account b t) k).start → j ≡ k
  zero_start_once = Accounts.marked_once b t

  -- the lines with verdict 0 are the stretches taken, in order; as many as REWRITE reports; they make the output and its length
  pub zero_lines : taken_lines (account b t) ≡ map (line_of b t) (taken b t)
  zero_lines = Accounts.account_taken b t

  pub zero_count : length (taken_lines (account b t)) ≡ length (taken b t)
  zero_count = Accounts.account_count b t

  pub zero_chain : Chain t 0 (taken_lines (account b t))
  zero_chain = Lengths.taken_chain b t

  pub output_from_lines : rewriting b t ≡ replace b t 0 (taken_lines (account b t))
  output_from_lines = Replaced.rewriting_account b t

  pub output_length : length (rewriting b t) + removed (taken_lines (account b t)) ≡ length t + writes b (taken_lines (account b t))
  output_length = Lengths.rewriting_length b t

  -- at most one stretch a position, the tape's end among them
  pub taken_limit : length (taken b t) ≤ length t + 1
  taken_limit = Limits.taken_most b t

-- 5. No output of an accepted book is longer than 9n + 8 symbols; the insertions above have one that is as long.
pub output_limit : (s : List ℕ) → (check_def s).reply ≡ 0 → (t : List ℕ) → length (rewriting (rules_in s) t) ≤ most_output (length t) longest_word
output_limit s h t = Limits.output_most (rules_in s) t longest_word (Limits.word_short s h)

-- 6. SHOW of a line of an account is its candidate's stretch, an empty one at its start, where the account stands at the front of any lines; and so it
-- stands after ACCOUNT: the stretch's bounds, and what stands in it.
pub shown_is_stretch : (b : Rules) (t lines : List ℕ) (k : ℕ) → k < length (account b t)
    → between (line_number (account b t) k).start (line_number (account b t) k).end ≡ bounds_of (length t) (onto (words_in (account b t)) lines) k
shown_is_stretch = Showing.bounds_line

module _ (s t rows sets scratch lines : List ℕ) (k : ℕ) where
  pub shown_after_account : k < (account_def s t rows sets scratch lines).answer.candidates
      → between (line_number (account (rules_in s) t) k).start (line_number (account (rules_in s) t) k).end
      ≡ bounds_of (length t) (account_def s t rows sets scratch lines).lines k
  shown_after_account = ShownAfter.bounds_after s t rows sets scratch lines k

  pub shown_symbols : k < (account_def s t rows sets scratch lines).answer.candidates
      → slice (line_number (account (rules_in s) t) k).start (line_number (account (rules_in s) t) k).end t
      ≡ show_def t (account_def s t rows sets scratch lines).lines k
  shown_symbols = ShownAfter.symbols_after s t rows sets scratch lines k

-- 7. After REWRITE, whatever was lent: the origins that the answer counts never fall, and each is a position of the tape, or its end where a word is put
-- in. That is what a printed time needs: with a clock that never falls and has a time for each position and for the end, a symbol prints no earlier than
-- the one before it.
module _ (s t rows sets scratch out origins : List ℕ) where
  abbrev after : AfterRewrite
  after = rewrite_def s t rows sets scratch out origins

  pub times_never_fall : NeverFalls (take after.answer.length after.origins)
  times_never_fall = TimesAfter.times_rise s t rows sets scratch out origins

  pub times_on_tape : (k : ℕ) → k < after.answer.length
      → (get_or after.origins k 0 < length t) ⊎ ((get_or after.origins k 0 ≡ length t) × Takes (rules_in s) t (length t) (length t))
  times_on_tape = TimesAfter.times_within s t rows sets scratch out origins

  pub printed_never_fall : (clock : List ℕ) → NeverFalls clock → length t < length clock → (j k : ℕ) → j ≤ k → k < after.answer.length
      → get_or clock (get_or after.origins j 0) 0 ≤ get_or clock (get_or after.origins k 0) 0
  printed_never_fall = TimesAfter.times_print s t rows sets scratch out origins

-- 8. Of a book nothing is asked but its words and which stretches of the tape are candidates of which rule.
module _ (b b' : Rules) (t : List ℕ) (words : b.words ≡ b'.words) (same : (i j r : ℕ) → candidate b t i j r ≡ candidate b' t i j r) where
  pub same_candidates_output : rewriting b t ≡ rewriting b' t
  same_candidates_output = Agreeing.rewriting_same b b' t words same

  pub same_candidates_account : account b t ≡ account b' t
  same_candidates_account = Agreeing.account_same b b' t words same

-- Document 02, No. 6: "Accounts and outputs of old books on old tapes do not change where the book still builds." An old tape has the first n symbols
-- alone: whatever the rules, it is all one whether a language has words of other symbols too.
module _ (n : ℕ) (b : Rules) (t : List ℕ) (low : high n t ≡ false) where
  pub old_tape_output : rewriting (rules_below n b) t ≡ rewriting b t
  old_tape_output = Agreeing.rewriting_below n b t low

  pub old_tape_account : account (rules_below n b) t ≡ account b t
  old_tape_account = Agreeing.account_below n b t low

-- An old book is one that CHECK accepts where there are the first n symbols alone. It is still accepted, with the same counts, as the same rules; on an
-- old tape it has the output and the account that it had; and BUILD answers of it what it did, with the same sets and numbers, in rows that agree on
-- the first n entries.
module _ (n : ℕ) (s : List ℕ) (old : (check_below n s).reply ≡ 0) where
  pub old_accepted : check_def s ≡ check_below n s
  old_accepted = BookBefore.old_check n s old

  pub old_output : (t : List ℕ) → high n t ≡ false → rewriting (rules_in s) t ≡ rewriting (rules_below n (rules (book_below n s))) t
  old_output t low = ap (λ (b : Book). rewriting (rules b) t) (BookBefore.old_book n s old) ∙ sym (old_tape_output n (rules (book_below n s)) t low)

  pub old_account : (t : List ℕ) → high n t ≡ false → account (rules_in s) t ≡ account (rules_below n (rules (book_below n s))) t
  old_account t low = ap (λ (b : Book). account (rules b) t) (BookBefore.old_book n s old) ∙ sym (old_tape_account n (rules (book_below n s)) t low)

  pub old_build : n ≤ symbol_count → (rows rows₀ sets : List ℕ) → row_bytes ≤ length rows → bytes_below n ≤ length rows₀ → set_words ≤ length sets
      → AsBefore n (build_below n s rows₀ sets) (build_def s rows sets)
  old_build fits rows rows₀ sets = SetsBefore.build_before n fits s rows rows₀ sets old

-- Every book that has the first n symbols alone is an old one; and with all symbols that there are CHECK and BUILD are those of before.
pub book_is_old : (n : ℕ) (s : List ℕ) → (check_def s).reply ≡ 0 → high_book n (book_of s) ≡ false → check_below n s ≡ check_def s
book_is_old = BookBefore.check_old

pub all_symbols_check : (s : List ℕ) → check_below symbol_count s ≡ check_def s
all_symbols_check = BookBefore.check_now

pub all_symbols_build : (s rows sets : List ℕ) → build_below symbol_count s rows sets ≡ build_def s rows sets
all_symbols_build = SetsBefore.build_now

-- What makes it so: a symbol on no arc leads back to the set of the empty tape, number 0, on either side.
module _ (b : Book) (set a : ℕ) (shut : on_no_arc b a ≡ true) where
  pub left_returns : left_next b set a ≡ left_first b
  left_returns = SetsBefore.left_back b set a shut

  pub right_returns : right_prev b set a ≡ right_last b
  right_returns = SetsBefore.right_back b set a shut

-- 9. Document 02, No. 8, two races on one tape. Over rules none of which looks across the symbol m: "the first rewriting, the symbol, and the second
-- rewriting, with the second's origins moved on by the first tape's length and one"; the stretches taken and the accounts join the same way.
module _ (b : Rules) (t : List ℕ) (m : ℕ) (u : List ℕ) (across : Blind m b) where
  pub joined_output : rewriting b (joined t m u) ≡ rewriting b t ++ (marker t m ∷ map (later (beyond t)) (rewriting b u))
  joined_output = RacesJoin.rewriting_joins b t m u across

  pub joined_taken : taken b (joined t m u) ≡ taken b t ++ map (shifted (beyond t)) (taken b u)
  joined_taken = RacesJoin.taken_joins b t m u across

  pub joined_account : account b (joined t m u) ≡ account b t ++ map (moved (beyond t)) (account b u)
  joined_account = RacesJoin.account_joins b t m u across

  pub joined_candidates : (i j r : ℕ) → Candidate b (joined t m u) i j r
      ↔ (Candidate b t i j r ⊎ ((x y : ℕ) × (i ≡ beyond t + x) × (j ≡ beyond t + y) × Candidate b u x y r))
  joined_candidates = RacesJoin.candidates_join b t m u across

-- Of a book: such a symbol is each that is on no arc, which is to say from the lowest to the highest symbol of none.
module _ (b : Book) (m : ℕ) where
  pub no_arc_says : (on_no_arc b m ≡ true) ↔ ((x : Arc) → Memᴰ x b.arcs → x.low ≤ m → m ≤ x.high → ⊥)
  no_arc_says = Unused.no_arc_says b m

  pub no_arc_blind : on_no_arc b m ≡ true → Blind m (rules b)
  no_arc_blind = Unused.blind b m

  module _ (shut : on_no_arc b m ≡ true) (t u : List ℕ) where
    pub book_output : rewriting (rules b) (joined t m u) ≡ rewriting (rules b) t ++ (marker t m ∷ map (later (beyond t)) (rewriting (rules b) u))
    book_output = joined_output (rules b) t m u (no_arc_blind shut)

    pub book_taken : taken (rules b) (joined t m u) ≡ taken (rules b) t ++ map (shifted (beyond t)) (taken (rules b) u)
    book_taken = joined_taken (rules b) t m u (no_arc_blind shut)

    pub book_account : account (rules b) (joined t m u) ≡ account (rules b) t ++ map (moved (beyond t)) (account (rules b) u)
    book_account = joined_account (rules b) t m u (no_arc_blind shut)

-- Of the calls. "Premise: the call on the joined tape is accepted": then so is the call on either tape, exactly in buffers with room. A valid symbol need
-- not be asked for: an accepted tape has no other.
module _ (s t : List ℕ) (m : ℕ) (u : List ℕ) (x : Lent) where
  module _ (accepted : (rewrite_call s (joined t m u) x).answer.reply ≡ 0) where
    pub first_accepted : (y : Lent) → ((rewrite_call s t y).answer.reply ≡ 0) ↔ OutputRoom s t y
    first_accepted = Races.first_output s t m u x accepted

    pub second_accepted : (y : Lent) → ((rewrite_call s u y).answer.reply ≡ 0) ↔ OutputRoom s u y
    second_accepted = Races.second_output s t m u x accepted

    module _ (shut : on_no_arc (book_of s) m ≡ true) where
      -- with any buffers that have room; and with the buffers that were lent for the joined tape, of which nothing need be asked
      pub outputs_join_within : (y : Lent) → OutputRoom s t y → (z : Lent) → OutputRoom s u z
          → OutputsJoin (length t) m (rewrite_call s (joined t m u) x) (rewrite_call s t y) (rewrite_call s u z)
      outputs_join_within = Races.outputs_join s t m u shut x accepted

      pub outputs_join : OutputsJoin (length t) m (rewrite_call s (joined t m u) x) (rewrite_call s t x) (rewrite_call s u x)
      outputs_join = let r = Races.output_room s t m u shut x accepted in outputs_join_within x r.0 x r.1

  module _ (accepted : (account_call s (joined t m u) x).answer.reply ≡ 0) where
    pub first_accounted : (y : Lent) → ((account_call s t y).answer.reply ≡ 0) ↔ AccountRoom s t y
    first_accounted = Races.first_account s t m u x accepted

    pub second_accounted : (y : Lent) → ((account_call s u y).answer.reply ≡ 0) ↔ AccountRoom s u y
    second_accounted = Races.second_account s t m u x accepted

    module _ (shut : on_no_arc (book_of s) m ≡ true) where
      pub accounts_join_within : (y : Lent) → AccountRoom s t y → (z : Lent) → AccountRoom s u z
          → AccountsJoin (length t) (account_call s (joined t m u) x) (account_call s t y) (account_call s u z)
      accounts_join_within = Races.accounts_join s t m u shut x accepted

      pub accounts_join : AccountsJoin (length t) (account_call s (joined t m u) x) (account_call s t x) (account_call s u x)
      accounts_join = let r = Races.account_room s t m u shut x accepted in accounts_join_within x r.0 x r.1

  -- When the premise holds: where both tapes are accepted, the symbol is valid, and the joined tape is not too long and has room.
  module _ (valid : m < symbol_count) (fits : length (joined t m u) ≤ longest_tape) (y z : Lent) where
    pub joined_accepted : (rewrite_call s t y).answer.reply ≡ 0 → (rewrite_call s u z).answer.reply ≡ 0 → OutputRoom s (joined t m u) x
        → (rewrite_call s (joined t m u) x).answer.reply ≡ 0
    joined_accepted p q = Races.joined_output s t m u y p z q valid fits x

    pub joined_accounted : (account_call s t y).answer.reply ≡ 0 → (account_call s u z).answer.reply ≡ 0 → AccountRoom s (joined t m u) x
        → (account_call s (joined t m u) x).answer.reply ≡ 0
    joined_accounted p q = Races.joined_account s t m u y p z q valid fits x
