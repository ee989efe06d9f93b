-- CHECK with the first n symbols: with as many as there are it is CHECK, and it accepts exactly the books that CHECK accepts and that have no symbol
-- above; as the same book. Assumes nothing.
use Prim.Native.Nat.{ℕ, zero, suc, ◌+◌, ◌≤◌, ◌<◌}
use mathlib.Core.Path.{◌≡◌, refl, sym, ap, ap₂, subst, ◌∙◌}
use mathlib.Core.List.{List, [], ◌∷◌, ◌++◌}
use mathlib.Core.Bool as B
use mathlib.Core.Bool.{Bool, true, false, not, cond, ◌&&◌, ◌||◌, and-false}
use native.Mathlib.Omega.{arith}
use lib.Dec.{T, leb, ltb, eqb, le→leb}
use lib.ListN.{length, get_or}
use borrow.Author.Tests.{lt-leb, eqb-true, eqb-false, ne_eqb, le-ltb}
use Rattle.book.specs.Format.{symbol_count, most_rules, most_arcs, longest_word, end_kind, end_size, length_at, symbols_at, from_at, low_at, high_at, to_at}
use Rattle.book.specs.Format.{byte, record_size, symbols_fit, rule_reply, arc_reply, kind_reply, record_reply}
use Rattle.book.specs.Reading.{Book, empty, scan_of, word_at, arc_at, with_record}
use Rattle.book.specs.Reading.{Read, refused, accepted, ended, read_from, read_book, answer, check_def, book_in, book_of}
use Rattle.book.specs.Language.{any}
use Rattle.book.specs.Unused.{on_no_arc}
use Rattle.book.specs.Before.{high, high_arc, high_book, reply_below, read_below, read_all_below, check_below, book_below}
use Rattle.book.specs.declared.Scan.{Scan}
use Rattle.book.proofs.Tests.{or_none, any_in}
use Rattle.book.proofs.Some.{any_append}
use Rattle.book.proofs.Unused.{no_arc_says}
use Rattle.book.proofs.Passed.{kind_rel}
use Rattle.book.proofs.Progress.{read_refused, read_end, read_more}
use Rattle.book.proofs.Accepted.{Next, last, more, next, never, ends, positive_ended, is_accepted}
use Rattle.book.proofs.Sound.{word_fits}

-- ---- tests
any_snoc : {A : Type 0} (f : A → Bool) (xs : List A) (x : A) → any f (xs ++ (x ∷ [])) ≡ (any f xs || f x)
any_snoc f xs x = any_append f xs (x ∷ []) ∙ ap (λ (c : Bool). any f xs || c) (B.or-false (f x))

-- a test with another reply than the one that was given did not hold
test_not : (t : Bool) (r rest v : ℕ) → (r ≡ v → ⊥) → cond t r rest ≡ v → (t ≡ false) × (rest ≡ v)
test_not true r rest v n e = absurd (n e)
test_not false r rest v n e = (refl, e)

-- a word whose symbols are all below n has none above
low_word : (n : ℕ) (w : List ℕ) → ((i : ℕ) → i < length w → get_or w i 0 < n) → high n w ≡ false
low_word n [] f = refl
low_word n (x ∷ w) f = ap₂ ◌||◌ (lt-leb n x (f 0 (omega arith))) (low_word n w (λ i h. f (suc i) (omega arith)))

-- in a book without a symbol above no arc is open to one
pub no_arc_lem : (n : ℕ) (b : Book) (a : ℕ) → high_book n b ≡ false → n ≤ a → on_no_arc b a ≡ true
unfolding high_book
no_arc_lem n b a e h =
    (no_arc_says b a).1 (λ x i l g. subst T (or_none (any (high n) b.words) _ e).1 (any_in (high_arc n) i (le→leb n x.high (omega arith))))

-- ---- one record
module _ (n : ℕ) (s : List ℕ) (at : ℕ) where
  -- the book with a record has a symbol above where the book has one, or the record
  high_with : (b : Book) → high_book n (with_record s at b) ≡ (high_book n b || high_book n (with_record s at empty))
  unfolding high_book with_record
  high_with b =
      kind_rel (λ (x y : Book). high_book n x ≡ (high_book n b || high_book n y)) (byte s at) _ _ _ _ _ _ _ _
      (λ _. ap (λ (c : Bool). c || any (high_arc n) b.arcs) (any_snoc (high n) b.words (word_at s at))
      ∙ of_word (any (high n) b.words) (any (high_arc n) b.arcs) (high n (word_at s at)))
      (λ _. of_none (any (high n) b.words || any (high_arc n) b.arcs))
      (λ _. ap (λ (c : Bool). any (high n) b.words || c) (any_snoc (high_arc n) b.arcs (arc_at s at))
      ∙ of_arc (any (high n) b.words) (any (high_arc n) b.arcs) (high_arc n (arc_at s at)))
      (of_none (any (high n) b.words || any (high_arc n) b.arcs))
    where
      of_none : (a : Bool) → a ≡ (a || false)
      of_none true = refl
      of_none false = refl

      of_word : (a b c : Bool) → ((a || c) || b) ≡ ((a || b) || ((c || false) || false))
      of_word true b c = refl
      of_word false true true = refl
      of_word false true false = refl
      of_word false false true = refl
      of_word false false false = refl

      of_arc : (a b c : Bool) → (a || (b || c)) ≡ ((a || b) || (false || (c || false)))
      of_arc true b c = refl
      of_arc false true c = refl
      of_arc false false true = refl
      of_arc false false false = refl

  -- the end has none
  high_end : byte s at ≡ end_kind → high_book n (with_record s at empty) ≡ false
  unfolding high_book with_record
  high_end k = rw k

  -- without a symbol above the reply is CHECK's; and it is 0 nowhere else
  reply_same : (g : Scan) → high_book n (with_record s at empty) ≡ false → reply_below n s at g ≡ record_reply s at g
  unfolding reply_below
  reply_same g e = ap (λ (c : Bool). cond (c && (eqb (record_reply s at g) 0 || eqb (record_reply s at g) 6)) 5 (record_reply s at g)) e

  reply_zero : (g : Scan) → reply_below n s at g ≡ 0 → (record_reply s at g ≡ 0) × (high_book n (with_record s at empty) ≡ false)
  unfolding reply_below
  reply_zero g e = by (high_book n (with_record s at empty)) refl e
    where
      by : (c : Bool) → high_book n (with_record s at empty) ≡ c
          → cond (c && (eqb (record_reply s at g) 0 || eqb (record_reply s at g) 6)) 5 (record_reply s at g) ≡ 0
          → (record_reply s at g ≡ 0) × (high_book n (with_record s at empty) ≡ false)
      by false q z = (z, q)
      by true q z =
          let y = test_not (eqb (record_reply s at g) 0 || eqb (record_reply s at g) 6) 5 (record_reply s at g) 0 (λ w. omega arith) z in
          absurd (eqb-false (record_reply s at g) 0 (or_none (eqb (record_reply s at g) 0) _ y.0).0 y.1)

  module _ (k : ℕ) (b : Book) where
    below_refused : (r : ℕ) → reply_below n s at (scan_of b) ≡ suc r → read_below n (suc k) s at b ≡ refused (suc r) at
    unfolding read_below
    below_refused r e = rw (e, read_below)

    below_end : reply_below n s at (scan_of b) ≡ 0 → byte s at ≡ end_kind → read_below n (suc k) s at b ≡ ended (ltb (at + end_size) (length s)) at b
    unfolding read_below
    below_end e q = rw (e, read_below, q)

    below_more : reply_below n s at (scan_of b) ≡ 0 → (byte s at ≡ end_kind → ⊥)
        → read_below n (suc k) s at b ≡ read_below n k s (at + record_size (byte s at)) (with_record s at b)
    unfolding read_below
    below_more e q = rw (e, read_below, ne_eqb _ _ q)

-- ---- all records
module _ (n : ℕ) (s : List ℕ) where
  -- what the n symbols accept is accepted, and has no symbol above
  below_read : (k at : ℕ) (b B : Book) → read_below n k s at b ≡ accepted B → high_book n b ≡ false
      → (read_from k s at b ≡ accepted B) × (high_book n B ≡ false)
  unfolding read_below
  below_read zero at b B h f = absurd (never _ _ _ h)
  below_read (suc k) at b B h f =
      by (reply_below n s at (scan_of b)) (eqb (byte s at) end_kind) refl refl (below_read k (at + record_size (byte s at)) (with_record s at b) B)
    where
      After : Type 0
      After =
          read_below n k s (at + record_size (byte s at)) (with_record s at b) ≡ accepted B → high_book n (with_record s at b) ≡ false
          → (read_from k s (at + record_size (byte s at)) (with_record s at b) ≡ accepted B) × (high_book n B ≡ false)

      by : (r : ℕ) (t : Bool) → reply_below n s at (scan_of b) ≡ r → eqb (byte s at) end_kind ≡ t → After
          → (read_from (suc k) s at b ≡ accepted B) × (high_book n B ≡ false)
      by (suc r) t e q ih = absurd (never _ _ _ (sym (below_refused n s at k b r e) ∙ h))
      by zero true e q ih =
          let z = reply_zero n s at (scan_of b) e in
          let y = sym (below_end n s at k b e (eqb-true _ _ q)) ∙ h in
          (read_end k s at b z.0 (eqb-true _ _ q) ∙ y, ap (high_book n) (sym (ends k s at b B (ltb (at + end_size) (length s)) refl y).1) ∙ f)
      by zero false e q ih =
          let z = reply_zero n s at (scan_of b) e in
          let y = sym (below_more n s at k b e (eqb-false _ _ q)) ∙ h in
          let i = ih y (high_with n s at b ∙ ap₂ ◌||◌ f z.1) in
          (read_more k s at b z.0 (eqb-false _ _ q) ∙ i.0, i.1)

  -- and what is accepted and has none is accepted by the n symbols
  read_below_lem : (k at : ℕ) (b B : Book) → read_from k s at b ≡ accepted B → high_book n B ≡ false
      → (read_below n k s at b ≡ accepted B) × (high_book n b ≡ false)
  unfolding read_from
  read_below_lem zero at b B h f = absurd (never _ _ _ h)
  read_below_lem (suc k) at b B h f = by (next k s at b B h) (λ h'. read_below_lem k (at + record_size (byte s at)) (with_record s at b) B h' f)
    where
      After : Type 0
      After =
          read_from k s (at + record_size (byte s at)) (with_record s at b) ≡ accepted B
          → (read_below n k s (at + record_size (byte s at)) (with_record s at b) ≡ accepted B) × (high_book n (with_record s at b) ≡ false)

      by : Next k s at b B → After → (read_below n (suc k) s at b ≡ accepted B) × (high_book n b ≡ false)
      by (last e q l z) ih =
          let y = reply_same n s at (scan_of b) (high_end n s at q) ∙ e in
          (below_end n s at k b y q ∙ ap (λ (c : Bool). ended c at b) (le-ltb (at + end_size) (length s) l) ∙ ap accepted z, ap (high_book n) z ∙ f)
      by (more e q h') ih =
          let i = ih h' in
          let z = or_none (high_book n b) (high_book n (with_record s at empty)) (sym (high_with n s at b) ∙ i.1) in
          (below_more n s at k b (reply_same n s at (scan_of b) z.1 ∙ e) q ∙ i.0, z.0)

  -- a refusal's number is never 0
  below_positive : (k at : ℕ) (b : Book) (r p : ℕ) → read_below n k s at b ≡ refused r p → r ≡ 0 → ⊥
  unfolding read_below
  below_positive zero at b r p h z = let e : 1 ≡ r = cc in omega arith
  below_positive (suc k) at b r p h z = by (reply_below n s at (scan_of b)) (eqb (byte s at) end_kind) refl refl (λ q. below_positive k _ _ r p q z)
    where
      by : (m : ℕ) (t : Bool) → reply_below n s at (scan_of b) ≡ m → eqb (byte s at) end_kind ≡ t
          → (read_below n k s (at + record_size (byte s at)) (with_record s at b) ≡ refused r p → ⊥) → ⊥
      by (suc m) t e q ih = let h' = sym (below_refused n s at k b m e) ∙ h in let w : suc m ≡ r = cc in omega arith
      by zero true e q ih = positive_ended s (ltb (at + end_size) (length s)) at b r p (sym (below_end n s at k b e (eqb-true _ _ q)) ∙ h) z
      by zero false e q ih = ih (sym (below_more n s at k b e (eqb-false _ _ q)) ∙ h)

  below_accepted : (check_below n s).reply ≡ 0 → read_all_below n s ≡ accepted (book_below n s)
  unfolding check_below book_below read_all_below
  below_accepted z = by (read_all_below n s) refl z
    where
      by : (x : Read) → read_all_below n s ≡ x → (answer x).reply ≡ 0 → x ≡ accepted (book_in x)
      by (refused r p) e z = absurd (below_positive _ _ _ r p e z)
      by (accepted b) e z = refl

  high_empty : high_book n empty ≡ false
  unfolding high_book
  high_empty = refl

  -- a book that the first n symbols accept: it is accepted still, as the same book, and has no symbol above
  module _ (z : (check_below n s).reply ≡ 0) where
    old_read : (read_book s ≡ accepted (book_below n s)) × (high_book n (book_below n s) ≡ false)
    unfolding read_book read_all_below
    old_read = below_read _ _ _ _ (below_accepted z) high_empty

    pub old_book : book_of s ≡ book_below n s
    unfolding book_of
    old_book = ap book_in old_read.0

    pub old_check : check_def s ≡ check_below n s
    unfolding check_def check_below
    old_check = ap answer (old_read.0 ∙ sym (below_accepted z))

    pub old_low : high_book n (book_of s) ≡ false
    old_low = ap (high_book n) old_book ∙ old_read.1

  -- and one that is accepted and has no symbol above was accepted so
  pub check_old : (check_def s).reply ≡ 0 → high_book n (book_of s) ≡ false → check_below n s ≡ check_def s
  unfolding check_def check_below read_book read_all_below
  check_old z f = let a = is_accepted s z in ap answer ((read_below_lem _ _ _ _ a f).0 ∙ sym a)

-- ---- with as many symbols as there are
module _ (s : List ℕ) (at : ℕ) (g : Scan) where
  -- a record's reply is 0 or 6 where its symbols are symbols
  of_rule : (v : ℕ) → (3 ≡ v → ⊥) → (5 ≡ v → ⊥) → rule_reply s at g.rules ≡ v → high symbol_count (word_at s at) ≡ false
  unfolding rule_reply
  of_rule v n₃ n₅ e =
      let a = test_not (leb most_rules g.rules) 3 _ v n₃ e in
      let b = test_not (ltb longest_word (byte s (at + length_at))) 5 _ v n₅ a.1 in
      let c = test_not (not (symbols_fit s (at + symbols_at) (byte s (at + length_at)) longest_word)) 5 _ v n₅ b.1 in
      low_word symbol_count (word_at s at) (word_fits s at g.rules (e ∙ sym c.1)).1.symbols

  of_arc : (v : ℕ) → (4 ≡ v → ⊥) → (3 ≡ v → ⊥) → (5 ≡ v → ⊥)
      → arc_reply (byte s (at + from_at)) (byte s (at + low_at)) (byte s (at + high_at)) (byte s (at + to_at)) g ≡ v
      → leb symbol_count (byte s (at + high_at)) ≡ false
  unfolding arc_reply
  of_arc v n₄ n₃ n₅ e =
      let a = test_not (eqb g.rules 0) 4 _ v n₄ e in
      let b = test_not (leb most_arcs g.arcs) 3 _ v n₃ a.1 in
      (test_not (leb symbol_count (byte s (at + high_at))) 5 _ v n₅ b.1).0

  of_record : (v : ℕ) → ((r : ℕ) → 1 ≤ r → r ≤ 5 → r ≡ v → ⊥) → record_reply s at g ≡ v → high_book symbol_count (with_record s at empty) ≡ false
  unfolding record_reply kind_reply high_book with_record
  of_record v n e =
      let a = test_not (leb (length s) at) 1 _ v (n 1 (omega arith) (omega arith)) e in
      let b = test_not (eqb (record_size (byte s at)) 0) 2 _ v (n 2 (omega arith) (omega arith)) a.1 in
      let c = test_not (ltb (length s) (at + record_size (byte s at))) 1 _ v (n 1 (omega arith) (omega arith)) b.1 in
      kind_rel (λ (x : ℕ) (y : Book). x ≡ v → high_book symbol_count y ≡ false) (byte s at) _ _ _ _ _ _ _ _
      (λ _ q. ap (λ (c : Bool). (c || false) || false) (of_rule v (n 3 (omega arith) (omega arith)) (n 5 (omega arith) (omega arith)) q))
      (λ _ q. refl)
      (λ _ q. ap (λ (c : Bool). false || (c || false))
      (of_arc v (n 4 (omega arith) (omega arith)) (n 3 (omega arith) (omega arith)) (n 5 (omega arith) (omega arith)) q))
      (λ q. refl) c.1

  reply_now : reply_below symbol_count s at g ≡ record_reply s at g
  unfolding reply_below
  reply_now = by (eqb (record_reply s at g) 0) (eqb (record_reply s at g) 6) refl refl
    where
      by : (x y : Bool) → eqb (record_reply s at g) 0 ≡ x → eqb (record_reply s at g) 6 ≡ y
          → cond (high_book symbol_count (with_record s at empty) && (eqb (record_reply s at g) 0 || eqb (record_reply s at g) 6)) 5 (record_reply s at g)
          ≡ record_reply s at g
      by true y p q = reply_same symbol_count s at g (of_record 0 (λ r h k z. omega arith) (eqb-true _ _ p))
      by false true p q = reply_same symbol_count s at g (of_record 6 (λ r h k z. omega arith) (eqb-true _ _ q))
      by false false p q = rw (p, q) (ap (λ (c : Bool). cond c 5 (record_reply s at g)) (and-false (high_book symbol_count (with_record s at empty))))

module _ (s : List ℕ) where
  read_now : (k at : ℕ) (b : Book) → read_below symbol_count k s at b ≡ read_from k s at b
  unfolding read_below read_from
  read_now zero at b = refl
  read_now (suc k) at b =
      by (record_reply s at (scan_of b)) (eqb (byte s at) end_kind) refl refl (read_now k (at + record_size (byte s at)) (with_record s at b))
    where
      now : reply_below symbol_count s at (scan_of b) ≡ record_reply s at (scan_of b)
      now = reply_now s at (scan_of b)

      After : Type 0
      After =
          read_below symbol_count k s (at + record_size (byte s at)) (with_record s at b) ≡ read_from k s (at + record_size (byte s at)) (with_record s at b)

      by : (r : ℕ) (t : Bool) → record_reply s at (scan_of b) ≡ r → eqb (byte s at) end_kind ≡ t → After
          → read_below symbol_count (suc k) s at b ≡ read_from (suc k) s at b
      by (suc r) t e q ih = below_refused symbol_count s at k b r (now ∙ e) ∙ sym (read_refused k s at b (suc r) e (λ z. omega arith))
      by zero true e q ih = below_end symbol_count s at k b (now ∙ e) (eqb-true _ _ q) ∙ sym (read_end k s at b e (eqb-true _ _ q))
      by zero false e q ih =
          below_more symbol_count s at k b (now ∙ e) (eqb-false _ _ q) ∙ ih
          ∙ sym (read_more k s at b e (eqb-false _ _ q))

  pub check_now : check_below symbol_count s ≡ check_def s
  unfolding check_below check_def read_all_below read_book
  check_now = ap answer (read_now (suc (length s)) 0 empty)

  pub book_now : book_below symbol_count s ≡ book_of s
  unfolding book_below book_of read_all_below read_book
  book_now = ap book_in (read_now (suc (length s)) 0 empty)
