-- How much one tape can give: at each position, the tape's end among them, as many symbols as the longest word has, and each symbol; and at most one
-- stretch a position. Where no focus is empty, for each symbol as many as the longest word has, or itself. Assumes nothing.
use Prim.Native.Nat.{ℕ, zero, suc, ◌+◌, ◌*◌, max, ◌≤◌, ◌<◌}
use mathlib.Core.Path.{◌≡◌, refl, subst, sym, ap, ◌∙◌}
use mathlib.Core.Logic.{by_cases}
use mathlib.Core.Bool.{Bool, true, false, cond, ◌&&◌}
use mathlib.Core.List.{List, [], ◌∷◌, map}
use native.Mathlib.Nat.{suc-mul, mul-le-mul}
use native.Mathlib.Omega.{arith}
use native.Mathlib.Decide.{dec_lt, ℕ_discrete}
use borrow.Author.Tests.{eq-eqb, ne_eqb}
use lib.Bits.{bit_and}
use lib.Dec.{T, eqb, ltb}
use lib.ListN.{length, get_or, take, drop, length-append}
use lib.Seq.{slice, slice_empty}
use Rattle.book.specs.Format.{longest_word}
use Rattle.book.specs.Reading.{check_def, book_of}
use Rattle.book.specs.Language.{Rules, rules_in}
use Rattle.book.specs.Outline.{all_starts, all_accepts}
use Rattle.book.proofs.Tests.{and_left, any_up}
use Rattle.book.proofs.Claims.{sound as sound-of}
use Rattle.stretches.specs.Candidates.{candidate, some_rule, longest, fresh, rule_of, keep, taken_at, taken}
use Rattle.stretches.specs.Output.{written, written_at, rule_word, rewriting}
use Rattle.stretches.specs.Buffers.{longest_tape}
use Rattle.stretches.specs.Position.{word_here, kept_at, marks_at, takes_at, end_next}
use Rattle.stretches.specs.declared.pass.Pass.{Pass}
use Rattle.output.specs.Passes.{by, along, longest_in, most_output, most_replaced, longest_for}
use Rattle.stretches.proofs.Greatest.{greatest_all, greatest_most, Topped, topped_more, topped_less, topped_end}
use Rattle.stretches.proofs.WordMarks.{marks_length}
use Rattle.stretches.proofs.Meets.{none_empty}
use Rattle.stretches.proofs.Walks.{longest_low, longest_high}
use Rattle.stretches.proofs.Along.{from, At, at_start, at_turn, takes_step, takes_all, takes_last, kept_in, kept_free, kept_last}
use Rattle.stretches.proofs.Along.{marks_step, marks_all, marks_in, marks_free, marks_last, word_none}

-- ---- the lengths of words

lengths_many : (ws : List (List ℕ)) → length (map length ws) ≡ length ws
lengths_many [] = refl
lengths_many (w ∷ ws) = ap suc (lengths_many ws)

lengths_at : (ws : List (List ℕ)) (r : ℕ) → get_or (map length ws) r 0 ≡ length (get_or ws r [])
lengths_at [] r = refl
lengths_at (w ∷ ws) zero = refl
lengths_at (w ∷ ws) (suc r) = lengths_at ws r

no_word : (ws : List (List ℕ)) (r : ℕ) → length ws ≤ r → length (get_or ws r []) ≡ 0
no_word [] r h = refl
no_word (w ∷ ws) zero h = absurd (omega arith)
no_word (w ∷ ws) (suc r) h = no_word ws r (omega arith)

module _ (b : Rules) where
  most_word : (r : ℕ) → length (rule_word b r) ≤ longest_in b
  unfolding longest_in
  most_word r = by_cases (dec_lt r (length b.words))
      (λ h. let z = greatest_all (map length b.words) 0 r (omega (arith, lengths_many b.words)) in omega (arith, lengths_at b.words r))
      (λ h. omega (arith, no_word b.words r (omega arith)))

  most_limit : (m : ℕ) → ((r : ℕ) → r < length b.words → length (rule_word b r) ≤ m) → longest_in b ≤ m
  unfolding longest_in
  most_limit m f =
      greatest_most (map length b.words) 0 m (omega arith)
      (λ r k. let z = f r (omega (arith, lengths_many b.words)) in omega (arith, lengths_at b.words r))

-- the longest word among the rules below r
abbrev pub Longest : List ℕ → ℕ → ℕ → Type 0
Longest book most r = Topped 0 (map length (book_of book).words) most r

module _ (book : List ℕ) (most r : ℕ) (was : Longest book most r) where
  pub longest_turn : r < length (book_of book).words → (n : ℕ) → n ≡ length (get_or (book_of book).words r []) → Longest book (max most n) (r + 1)
  longest_turn h n e = by_cases (dec_lt most n)
      (λ g. let m : n ≡ max most n = omega arith in subst (λ (k : ℕ). Longest book k (r + 1)) m (topped_more 0 (map length (book_of book).words) most r was below n is g))
      (λ g. let m : most ≡ max most n = omega arith in subst (λ (k : ℕ). Longest book k (r + 1)) m (topped_less 0 (map length (book_of book).words) most r was below n is (omega arith)))
    where
      below : r < length (map length (book_of book).words)
      below = omega (arith, lengths_many (book_of book).words)

      is : n ≡ get_or (map length (book_of book).words) r 0
      is = e ∙ sym (lengths_at (book_of book).words r)

  pub longest_end : length (book_of book).words ≤ r → most ≡ longest_in (rules_in book)
  unfolding longest_in
  longest_end h = topped_end 0 (map length (book_of book).words) most r was (omega (arith, lengths_many (book_of book).words))

-- ---- one position, then all from it on

module _ (b : Rules) (t : List ℕ) where
  takes_few : (i end : ℕ) → length (takes_at b t i end) ≤ 1
  unfolding takes_at
  takes_few i end = go (ltb i end) (eqb i i && (fresh b t i).taken)
    where
      go : (c d : Bool) → length (cond c [] (keep d (fresh b t i))) ≤ 1
      go true d = omega arith
      go false true = omega arith
      go false false = omega arith

  word_few : (i : ℕ) → length (word_here b t i) ≤ longest_in b
  unfolding word_here
  word_few i = go (some_rule b t i (longest b t i))
    where
      go : (c : Bool) → length (cond c (written b t i (longest b t i)) []) ≤ longest_in b
      go true =
          let w = rule_word b (rule_of b t i (longest b t i)) in
          omega (arith, marks_length w i (longest b t i), most_word b (rule_of b t i (longest b t i)))
      go false = omega arith

  kept_few : (i end : ℕ) → length (kept_at t i end) ≤ 1
  kept_few i end = by_cases (dec_lt i end)
      (λ h. omega (arith, ap length (kept_in t i end h)))
      (λ h. by_cases (dec_lt i (length t))
      (λ g. omega (arith, ap length (kept_free t i end g (omega arith))))
      (λ g. omega (arith, ap length (kept_last t i end (omega arith)))))

  free_many : (i end : ℕ) → end ≤ i → length (marks_at b t i end) ≡ length (word_here b t i) + length (kept_at t i (longest b t i))
  free_many i end h = ap length (marks_free b t i end h) ∙ length-append (word_here b t i) (kept_at t i (longest b t i))

  marks_few : (i end : ℕ) → length (marks_at b t i end) ≤ longest_in b + 1
  marks_few i end = by_cases (dec_lt i end)
      (λ h. omega (arith, ap length (marks_in b t i end h)))
      (λ h. omega (arith, free_many i end (omega arith), word_few i, kept_few i (longest b t i)))

  -- what a position adds, and what comes after it
  marks_more : (i end : ℕ) → i ≤ length t → At b t i end
      → length (from b t (written_at b t) i) ≡ length (marks_at b t i end) + length (from b t (written_at b t) (suc i))
  marks_more i end h a = ap length (marks_step b t i end h a) ∙ length-append (marks_at b t i end) (from b t (written_at b t) (suc i))

  marks_from_lem : (k i end : ℕ) → i + k ≡ length t → At b t i end → length (from b t (written_at b t) i) ≤ most_output k (longest_in b)
  marks_from_lem zero i end h a = omega (arith, ap length (marks_last b t i end (omega arith) a), word_few i)
  marks_from_lem (suc k) i end h a =
      let q = marks_from_lem k (suc i) (end_next b t i end) (omega arith) (at_turn b t i end a) in
      omega (arith, marks_more i end (omega arith) a, q, marks_few i end, suc-mul k (longest_in b + 1))

  takes_from : (k i end : ℕ) → i + k ≡ length t → At b t i end → length (from b t taken_at i) ≤ k + 1
  takes_from zero i end h a = omega (arith, ap length (takes_last b t i end (omega arith) a), takes_few i i)
  takes_from (suc k) i end h a =
      let p = ap length (takes_step b t i end (omega arith) a) ∙ length-append (takes_at b t i end) (from b t taken_at (suc i)) in
      let q = takes_from k (suc i) (end_next b t i end) (omega arith) (at_turn b t i end a) in
      omega (arith, p, q, takes_few i end)

  -- "9n + 8", where no word has more than m symbols
  pub output_most : (m : ℕ) → longest_in b ≤ m → length (rewriting b t) ≤ most_output (length t) m
  output_most m h =
      let w : length t * (longest_in b + 1) ≤ length t * (m + 1) = mul-le-mul (omega arith) (omega arith) in
      omega (arith, ap length (marks_all b t), marks_from_lem (length t) 0 0 (omega arith) (at_start b t), w)

  pub taken_most : length (taken b t) ≤ length t + 1
  taken_most = omega (arith, ap length (takes_all b t), takes_from (length t) 0 0 (omega arith) (at_start b t))

  -- where no focus is empty
  module _ (none : (r : ℕ) → T (b.focus r []) → ⊥) where
    no_own : (i : ℕ) → T (some_rule b t i i) → ⊥
    unfolding candidate
    no_own i x =
        let z = (any_up (candidate b t i i) 0 (length b.words)).0 x in
        let r = z.0 in
        let F = b.focus r (slice i i t) in let L = b.left r (take i t) in let G = b.right r (drop i t) in
        none r (subst (λ (w : List ℕ). T (b.focus r w)) (slice_empty i t) (and_left F L (and_left (F && L) G z.3)))

    past : (i : ℕ) → some_rule b t i (longest b t i) ≡ true → i < longest b t i
    past i e = by_cases (dec_lt i (longest b t i)) (λ h. h)
        (λ h. let l = longest_low b t i in
        let z : longest b t i ≡ i = omega arith in
        absurd (no_own i (subst (λ (j : ℕ). T (some_rule b t i j)) z (subst T (sym e) tt))))

    -- a position has its word or its symbol, and not both
    one_few : (m i end : ℕ) → longest_in b ≤ m → 1 ≤ m → length (marks_at b t i end) ≤ m
    one_few m i end w h = by_cases (dec_lt i end)
        (λ g. omega (arith, ap length (marks_in b t i end g)))
        (λ g. go (some_rule b t i (longest b t i)) refl (free_many i end (omega arith)))
      where
        go : (c : Bool) → some_rule b t i (longest b t i) ≡ c
            → length (marks_at b t i end) ≡ length (word_here b t i) + length (kept_at t i (longest b t i)) → length (marks_at b t i end) ≤ m
        go true e p = omega (arith, p, word_few i, ap length (kept_in t i (longest b t i) (past i e)))
        go false e p = omega (arith, p, ap length (word_none b t i e), kept_few i (longest b t i))

    last_none : (i : ℕ) → i ≡ length t → length (word_here b t i) ≡ 0
    last_none i h = go (some_rule b t i (longest b t i)) refl
      where
        go : (c : Bool) → some_rule b t i (longest b t i) ≡ c → length (word_here b t i) ≡ 0
        go true e = absurd (omega (arith, past i e, longest_high b t i (omega arith)))
        go false e = ap length (word_none b t i e)

    replaced_from : (m : ℕ) → longest_in b ≤ m → 1 ≤ m → (k i end : ℕ) → i + k ≡ length t → At b t i end → length (from b t (written_at b t) i) ≤ k * m
    replaced_from m w g zero i end h a = omega (arith, ap length (marks_last b t i end (omega arith) a), last_none i (omega arith))
    replaced_from m w g (suc k) i end h a =
        let q = replaced_from m w g k (suc i) (end_next b t i end) (omega arith) (at_turn b t i end a) in
        omega (arith, marks_more i end (omega arith) a, q, one_few m i end w g, suc-mul k m)

    pub replaced_most : (m : ℕ) → longest_in b ≤ m → 1 ≤ m → length (rewriting b t) ≤ length t * m
    replaced_most m w g = omega (arith, ap length (marks_all b t), replaced_from m w g (length t) 0 0 (omega arith) (at_start b t))

-- ---- an accepted book, and a tape that is ready

pub word_short : (book : List ℕ) → (check_def book).reply ≡ 0 → longest_in (rules_in book) ≤ longest_word
word_short book ok = most_limit (rules_in book) longest_word (λ r h. ((sound-of book ok).word r h).short)

module _ (p : Pass) where
  short : longest_in (by p) ≤ longest_word
  short = word_short p.walk.outline.states.book.now p.walk.outline.states.accepted

  -- what stands for one position has no more symbols than the longest word and one, and at the tape's end than the longest word
  pub position_fits : (i end : ℕ) → length (marks_at (by p) (along p) i end) ≤ longest_word + 1
  position_fits i end = omega (arith, marks_few (by p) (along p) i end, short)

  pub last_fits : (i : ℕ) → length (word_here (by p) (along p) i) ≤ longest_word + 1
  last_fits i = omega (arith, word_few (by p) (along p) i, short)

  pub output_fits : length (rewriting (by p) (along p)) ≤ most_output longest_tape longest_word
  output_fits =
      let m = output_most (by p) (along p) longest_word short in
      omega (arith, m, p.ready.tape_fits)

  -- the bound as the code computes it
  pub bound_holds : (r : ℕ)
      → r ≡ longest_for (bit_and (get_or p.walk.outline.masks.now all_starts 0) (get_or p.walk.outline.masks.now all_accepts 0)) (length (along p)) (longest_in (by p))
      → length (rewriting (by p) (along p)) ≤ r
  bound_holds r f = by_cases (ℕ_discrete x 0)
      (λ z. let q = f ∙ ap (λ (c : Bool). cond c (most_replaced n m) (most_output n m)) (eq-eqb x 0 z) in
      omega (
        arith,
        q,
        replaced_most (by p) (along p) (none_empty (book_of p.walk.outline.states.book.now) p.walk.rules p.walk.outline.masks.now p.walk.outlined.tests z)
            (max 1 m) (omega arith) (omega arith),
      ))
      (λ z. let q = f ∙ ap (λ (c : Bool). cond c (most_replaced n m) (most_output n m)) (ne_eqb x 0 z) in
      omega (arith, q, output_most (by p) (along p) m (omega arith)))
    where
      x : ℕ
      x = bit_and (get_or p.walk.outline.masks.now all_starts 0) (get_or p.walk.outline.masks.now all_accepts 0)

      n : ℕ
      n = length (along p)

      m : ℕ
      m = longest_in (by p)

  -- and no sum in it wraps
  pub bound_fits : (word : ℕ) → word ≡ longest_in (by p)
      → (word ≤ longest_word) × (most_output (length (along p)) word ≤ most_output longest_tape longest_word)
      × (most_replaced (length (along p)) word ≤ longest_tape * longest_word)
  bound_fits word e =
      let h : length (along p) ≤ longest_tape = p.ready.tape_fits in
      let g : word ≤ longest_word = omega (arith, short) in
      let w : word + 1 ≤ longest_word + 1 = omega arith in
      let v : max 1 word ≤ longest_word = omega arith in
      (g, omega (arith, g, mul-le-mul h w), mul-le-mul h v)
