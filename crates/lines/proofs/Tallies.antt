-- Counting the candidates: of an end, of a start, of a tape. What is counted and what is still to come make the whole. Assumes nothing.
use Prim.Native.Nat.{ℕ, zero, suc, ◌+◌, ◌-◌, ◌*◌, ◌≤◌, ◌<◌}
use mathlib.Core.Path.{◌≡◌, sym, ap, subst, ◌∙◌}
use mathlib.Core.Bool.{Bool, true, false, cond}
use mathlib.Core.List.{List}
use native.Mathlib.Omega.{arith}
use native.Mathlib.Numerals.{add-one}
use native.Mathlib.Nat.{add-zero, zero-add}
use lib.Dec.{T}
use lib.ListN.{length}
use Rattle.std.proofs.Common.{Bor, Some}
use Rattle.std.specs.List.{fold, count_by, range_with_len}
use Rattle.std.specs.Iterator.Runs.{Run}
use Rattle.std.proofs.iter.Yields.{nat_range_steps}
use Rattle.std.proofs.iter.runs.Sources.{range_runs}
use Rattle.std.proofs.lemmas.List.{same_lists}
use Rattle.std.proofs.lemmas.List.FromFn.{get_or-range_with_len, length-range_with_len}
use Rattle.book.specs.Format.{most_rules}
use Rattle.book.specs.Reading.{Book, book_of}
use Rattle.book.specs.Language.{Rules, rules, rules_in}
use Rattle.book.specs.Sound.{Sound}
use Rattle.stretches.specs.Candidates.{candidate}
use Rattle.stretches.specs.Account.{account}
use Rattle.stretches.specs.Sentences.{sum}
use Rattle.stretches.specs.Buffers.{longest_tape}
use Rattle.stretches.specs.Position.{hits}
use Rattle.lines.specs.Lines.{hit_count, end_count, start_count}
use Rattle.stretches.proofs.Lists.{miss}
use Rattle.stretches.proofs.Counts.{sum_same, sum_none, sum_most, account_length}
use Rattle.stretches.specs.declared.pass.Pass.{Pass}
use Rattle.lines.specs.Ends.{NoneFrom}
use Rattle.lines.specs.Coming.{bytes, rules_for, tape_of, NextStart, NextEnd}
use Rattle.lines.specs.declared.ends.Start.{Start}
use Rattle.lines.specs.declared.ends.End.{End}
use Rattle.lines.specs.declared.ends.Starts.{Starts}
use Rattle.lines.specs.declared.ends.Ends.{Ends}
use Rattle.lines.proofs.Onward.{end_hits}

-- n counts f below i; from i on up to m it is still to be counted
pub record Tally (f : ℕ → ℕ) (m whole i n : ℕ) : Type 0 where
  pub within : i ≤ m
  pub count : n + sum f i (m - i) ≡ whole

module _ (f : ℕ → ℕ) (m whole i n : ℕ) (was : Tally f m whole i n) where
  pub tally_turn : i < m → (x : ℕ) → x ≡ f i → Tally f m whole (suc i) (n + x)
  tally_turn h x e =
      let z : m - i ≡ suc (m - suc i) = omega arith in
      let g = ap (sum f i) z in
      record { within = h; count = omega (arith, g, was.count) }

  pub tally_low : n ≤ whole
  tally_low = omega (arith, was.count)

  pub tally_rest : ((k : ℕ) → i ≤ k → k < m → f k ≡ 0) → n ≡ whole
  tally_rest h =
      let w = was.within in
      omega (arith, was.count, sum_none f i (m - i) (λ k a b. h k a (omega arith)))

  pub tally_end : m ≤ i → n ≡ whole
  tally_end h = tally_rest (λ k a b. absurd (omega arith))

-- a test counts 1 or 0
at_most_one : (c : Bool) → cond c 1 0 ≤ 1
at_most_one true = omega arith
at_most_one false = omega arith

-- how many numbers from a on pass, n of them
filtered : (p : ℕ → Bool) (n a k : ℕ) → fold (λ (s x : ℕ). s + cond (p x) 1 0) k (range_with_len a n) ≡ k + sum (λ (r : ℕ). cond (p r) 1 0) a n
filtered p zero a k = sym (add-zero k)
filtered p (suc n) a k =
    omega (arith, filtered p n (a + 1) (k + cond (p a) 1 0), ap (λ (i : ℕ). sum (λ (r : ℕ). cond (p r) 1 0) i n) (add-one a))

some_one : {x y : ℕ} → Some x ≡ Some y → x ≡ y
some_one e = cc e

-- the items of a whole range
pub range_items : (q : Run nat_range_steps) (n : ℕ) → q.whole ≡ true → q.from.start ≡ 0 → q.from.end ≡ n → q.items ≡ range_with_len 0 n
range_items q n w e f =
    let up = range_runs q q.seen in
    let len : q.len ≡ n = omega (arith, up.1 w, e, f) in
    same_lists _ _ (omega (arith, q.long, len, length-range_with_len 0 n))
    (λ k d h. let i : k < q.len = omega (arith, q.long) in
    some_one (sym (q.reads k d i) ∙ up.3 k i) ∙ ap (λ a. a + k) e ∙ sym (get_or-range_with_len 0 n k d (omega arith)))

-- ---- one end

module _ (b : Book) (X R : ℕ) where
  abbrev pub passes : ℕ → ℕ
  passes r = cond (hits b X R r) 1 0

  pub hit_none : ((r : ℕ) → hits b X R r ≡ false) → 0 ≡ hit_count b X R
  unfolding hit_count
  hit_none h = sym (sum_none passes 0 (length b.words) (λ r i j. ap (λ (c : Bool). cond c 1 0) (h r)))

  pub hit_filter : (n : ℕ) → n ≡ length b.words → count_by (hits b X R) (range_with_len 0 n) ≡ hit_count b X R
  unfolding hit_count hits
  hit_filter n e = filtered (hits b X R) n 0 0 ∙ zero-add _ ∙ ap (sum passes 0) e

-- ---- one start

module _ (b : Rules) (t : List ℕ) where
  -- an end where no rule has a candidate
  end_none : (i j : ℕ) → ((r : ℕ) → r < length b.words → T (candidate b t i j r) → ⊥) → end_count b t i j ≡ 0
  end_none i j h = sum_none (λ (r : ℕ). cond (candidate b t i j r) 1 0) 0 (length b.words) (λ r k g. miss (candidate b t i j r) 1 0 (h r (omega arith)))

  pub start_begin : (i : ℕ) → i ≤ length t → Tally (end_count b t i) (suc (length t)) (start_count b t i) i 0
  unfolding start_count
  start_begin i h = record { within = omega arith; count = omega arith }

-- n counts the ends of s that come before what is left
pub record Counting (s : Start) (left : Ends) (n : ℕ) : Type 0 where
  pub start : left.start ≡ s
  pub tally : Tally (end_count (rules_for s) (tape_of s) s.at) (suc (length (tape_of s))) (start_count (rules_for s) (tape_of s) s.at) left.at n

-- the rules that pass at an end are those that have a candidate there
hits_are : (e : End) → hit_count (book_of (bytes e.start)) e.set e.right ≡ end_count (rules_for e.start) (tape_of e.start) e.start.at e.at
unfolding hit_count
hits_are e =
    let b = book_of (bytes e.start) in
    let t = tape_of e.start in
    sum_same (passes b e.set e.right) (λ (r : ℕ). cond (candidate (rules_for e.start) t e.start.at e.at r) 1 0)
    (λ r. ap (λ (c : Bool). cond c 1 0) (end_hits _ _ _ _ e.start.pass.now.walk.right_sets e.start.at e.at e.set e.right e.sets_there r)) 0 (length b.words)

module _ (s : Start) (left : Ends) where
  abbrev ends : ℕ → ℕ
  ends = end_count (rules_for s) (tape_of s) s.at

  abbrev all : ℕ
  all = start_count (rules_for s) (tape_of s) s.at

  pub counting_start : left.start ≡ s → left.at ≡ s.at → Counting s left 0
  counting_start e f = record { start = e; tally = rw f (start_begin (rules_for s) (tape_of s) s.at s.within) }

  module _ (n : ℕ) (was : Counting s left n) where
    module _ (e : End) (left' : Ends) (next : NextEnd left e left') (x : ℕ) (g : x ≡ hit_count (book_of (bytes e.start)) e.set e.right) where
      same : e.start ≡ s
      same = next.start ∙ was.start

      counted : x ≡ ends left.at
      counted = g ∙ hits_are e ∙ ap (λ (z : Start). end_count (rules_for z) (tape_of z) z.at e.at) same ∙ ap ends next.at

      turned : Tally ends (suc (length (tape_of s))) all (suc left.at) (n + x)
      turned =
          let h = e.sets_there.high in
          tally_turn ends (suc (length (tape_of s))) all left.at n was.tally (omega (arith, ap (λ (z : Start). length (tape_of z)) same, next.at)) x counted

      pub counting_low : n + x ≤ all
      counting_low = tally_low ends (suc (length (tape_of s))) all (suc left.at) (n + x) turned

      pub counting_turn : Counting s left' (n + x)
      counting_turn = record { start = next.start_after ∙ was.start; tally = rw next.at_after turned }

    pub counting_end : NoneFrom (rules_for left.start) (tape_of left.start) left.start.at left.at → n ≡ all
    counting_end h =
        let none : NoneFrom (rules_for s) (tape_of s) s.at left.at = subst (λ (z : Start). NoneFrom (rules_for z) (tape_of z) z.at left.at) was.start h in
        tally_rest ends (suc (length (tape_of s))) all left.at n was.tally
        (λ k h g. end_none (rules_for s) (tape_of s) s.at k (λ r l. none r k h (omega arith)))

-- ---- the whole tape

abbrev pub rules_over : Pass → Rules
rules_over p = rules_in p.walk.outline.states.book.now

-- n counts the starts that come before what is left
pub record Totalled (p : Pass) (left : Starts) (n : ℕ) : Type 0 where
  pub pass : left.pass.now ≡ p
  pub tally :
      Tally (start_count (rules_over p) p.walk.tape.now) (suc (length p.walk.tape.now)) (length (account (rules_over p) p.walk.tape.now)) left.at n

module _ (p : Pass) (left : Starts) where
  abbrev tape : List ℕ
  tape = p.walk.tape.now

  abbrev starts : ℕ → ℕ
  starts = start_count (rules_over p) tape

  abbrev whole : ℕ
  whole = length (account (rules_over p) tape)

  pub total_start : left.pass.now ≡ p → left.at ≡ 0 → Totalled p left 0
  unfolding start_count
  total_start e f =
      let z : suc (length tape) - 0 ≡ suc (length tape) = omega arith in
      record {
        pass = e;
        tally = rw f (record { within = omega arith; count = omega (arith, account_length (rules_over p) tape, ap (sum starts 0) z) });
      }

  module _ (n : ℕ) (was : Totalled p left n) where
    module _ (s : Start) (left' : Starts) (next : NextStart left s left') (x : ℕ) (g : x ≡ start_count (rules_for s) (tape_of s) s.at) where
      same_pass : s.pass.now ≡ p
      same_pass = ap (λ (q : Bor Pass). q.now) next.pass ∙ was.pass

      added : x ≡ starts left.at
      added = g ∙ ap (λ (q : Pass). start_count (rules_over q) q.walk.tape.now s.at) same_pass ∙ ap starts next.at

      passed : Tally starts (suc (length tape)) whole (suc left.at) (n + x)
      passed =
          let h = s.within in
          tally_turn starts (suc (length tape)) whole left.at n was.tally (omega (arith, ap (λ (q : Pass). length q.walk.tape.now) same_pass, next.at)) x added

      pub total_low : n + x ≤ whole
      total_low = tally_low starts (suc (length tape)) whole (suc left.at) (n + x) passed

      pub total_turn : Totalled p left' (n + x)
      total_turn = record { pass = ap (λ (q : Bor Pass). q.now) next.pass_after ∙ was.pass; tally = rw next.at_after passed }

    pub total_end : length left.pass.now.walk.tape.now < left.at → n ≡ whole
    total_end h = tally_end starts (suc (length tape)) whole left.at n was.tally (omega (arith, ap (λ (q : Pass). length q.walk.tape.now) was.pass))

-- ---- no count wraps

module _ (b : Book) (o : Sound b) (t : List ℕ) (short : length t ≤ longest_tape) where
  end_most : (i j : ℕ) → end_count (rules b) t i j ≤ most_rules
  end_most i j =
      let g = sum_most (λ (r : ℕ). cond (candidate (rules b) t i j r) 1 0) 1 (λ r. at_most_one (candidate (rules b) t i j r)) 0 (length b.words) in
      omega (arith, g, o.rules)

  pub start_most : (i : ℕ) → start_count (rules b) t i ≤ most_rules * suc longest_tape
  unfolding start_count
  start_most i = let g = sum_most (end_count (rules b) t i) most_rules (end_most i) i (suc (length t) - i) in omega (arith, g)

  pub account_most : length (account (rules b) t) ≤ most_rules * suc longest_tape * suc longest_tape
  unfolding start_count
  account_most =
      let g = sum_most (start_count (rules b) t) (most_rules * suc longest_tape) start_most 0 (suc (length t)) in omega (arith, g, account_length (rules b) t)
