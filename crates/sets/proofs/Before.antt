-- BUILD with the first w symbols: with as many as there are it is BUILD; and of a book that has no other symbols it answers and leaves what BUILD does, but
-- for the length of the rows, whose further entries are 0. Assumes nothing.
use Prim.Native.Nat.{ℕ, ◌+◌, ◌-◌, ◌*◌, ◌≤◌, ◌<◌}
use mathlib.Core.Path.{◌≡◌, refl, sym, ap, ap₂, ◌∙◌, subst, subst₂}
use mathlib.Core.Bool as B
use mathlib.Core.Bool.{Bool, true, false, not, cond, ◌&&◌, ◌||◌}
use mathlib.Core.List.{List, [], ◌++◌}
use native.Mathlib.Omega.{arith}
use borrow.Author.Tests.{eq-eqb, le-ltb}
use lib.Arith.{digits_lt}
use lib.Dec.{ltb, eqb}
use lib.ListN.{length, get_or, drop, get_or-append}
use Rattle.book.specs.Format.{symbol_count, left_part}
use Rattle.book.specs.Reading.{Arc, Book, book_of, check_def}
use Rattle.book.specs.Language.{opens, starts}
use Rattle.book.specs.StateSets.{member}
use Rattle.book.specs.declared.Checked.{Checked}
use Rattle.book.specs.Unused.{on_no_arc}
use Rattle.book.specs.Before.{check_below}
use Rattle.book.proofs.Unused.{no_open}
use Rattle.book.proofs.Before.{no_arc_lem, old_book, old_check, old_low, check_now, book_now}
use Rattle.sets.specs.Sets.{set_of, into_by, back_by, left_first, left_next, closed, right_last, right_prev}
use Rattle.sets.specs.Numbering.{most_sets, pairs, Table, all, pad}
use Rattle.sets.specs.Workspace.{row_bytes, set_words, left_table, right_table, unchanged, cleared, filled, numbered, build_def}
use Rattle.sets.specs.Before.{run_below, pairs_below, bytes_below, left_below, right_below, cleared_below, filled_below, numbered_below, build_below}
use Rattle.sets.specs.Before.{SameRows, AsBefore}
use Rattle.sets.proofs.Pad.{length_pad, get_or_pad_all}
use Rattle.sets.proofs.WaysOut.{way_on}
use Rattle.sets.proofs.Tables.{part_one, part_two}
use Rattle.sets.proofs.Widths.{run_now, Same, same, same_entry, new_entry, rows_fit, rows_fit'}

-- ---- a symbol on no arc leads back to the set of the empty tape, on either side
module _ (b : Book) (X a : ℕ) (shut : on_no_arc b a ≡ true) where
  pub left_back : left_next b X a ≡ left_first b
  unfolding left_next left_first into_by
  left_back = λ i. set_of b (λ (s : ℕ). (ap (λ (c : Bool). starts b left_part s || c) (into s) ∙ B.or-false (starts b left_part s)) i)
    where
      into : (s : ℕ) → into_by b X a s ≡ false
      into s = no_open b a shut (λ (x : Arc). member X x.from && (opens x x.from a && eqb x.to s)) (λ x e.
          ap (λ (c : Bool). member X x.from && ((eqb x.from x.from && c) && eqb x.to s)) e
          ∙ ap (λ (c : Bool). member X x.from && (c && eqb x.to s)) (B.and-false (eqb x.from x.from)) ∙ B.and-false (member X x.from))

  pub right_back : right_prev b X a ≡ right_last b
  unfolding right_prev right_last back_by
  right_back = ap (closed b) (λ i s. back s i)
    where
      back : (s : ℕ) → back_by b X a s ≡ false
      back s = no_open b a shut (λ (x : Arc). opens x s a && member X x.to) (λ x e.
          ap (λ (c : Bool). (eqb x.from s && c) && member X x.to) e ∙ ap (λ (c : Bool). c && member X x.to) (B.and-false (eqb x.from s)))

-- ---- the tables of a side
module _ (w : ℕ) (f : ℕ → ℕ → ℕ) (s : ℕ) (fits : w ≤ symbol_count) (back : (x a : ℕ) → w ≤ a → f x a ≡ s) where
  all_symbols_lem : w + (symbol_count - w) ≡ symbol_count
  all_symbols_lem = omega arith

  side : Same s w (symbol_count - w) most_sets (run_below w f s (pairs_below w)) (all f s)
  unfolding all
  side =
      subst (Same s w (symbol_count - w) most_sets (run_below w f s (pairs_below w)))
      (ap (λ (n : ℕ). run_below n f s (most_sets * n)) all_symbols_lem ∙ run_now f s pairs)
      (same f s w (symbol_count - w) back most_sets)

-- ---- the workspace
module _ (w : ℕ) (fits : w ≤ symbol_count) where
  -- what a side's table has, at any place of its part
  module _ (s : ℕ) (t t' : Table) (o : Same s w (symbol_count - w) most_sets t t') where
    entry_old : (k a : ℕ) → a < w → get_or t'.rows (symbol_count * k + a) 0 ≡ get_or t.rows (k * w + a) 0
    entry_old k a h =
        let e : w + (symbol_count - w) ≡ symbol_count = omega arith in
        let i : k * symbol_count + a ≡ symbol_count * k + a = omega arith in
        ap (λ (n : ℕ). get_or t'.rows n 0) (sym (ap (λ (n : ℕ). k * n + a) e ∙ i)) ∙ same_entry s w (symbol_count - w) most_sets t t' o k a h

    entry_new : (k a : ℕ) → w ≤ a → a < symbol_count → get_or t'.rows (symbol_count * k + a) 0 ≡ 0
    entry_new k a g h =
        let e : w + (symbol_count - w) ≡ symbol_count = omega arith in
        let i : k * symbol_count + (w + (a - w)) ≡ symbol_count * k + a = omega arith in
        ap (λ (n : ℕ). get_or t'.rows n 0) (sym (ap (λ (n : ℕ). k * n + (w + (a - w))) e ∙ i))
        ∙ new_entry s w (symbol_count - w) most_sets t t' o k (a - w) (omega arith)

    fits_now : length t'.rows ≤ pairs
    fits_now =
        let e : w + (symbol_count - w) ≡ symbol_count = omega arith in
        let h : most_sets * symbol_count ≡ pairs = omega arith in
        subst (λ (n : ℕ). length t'.rows ≤ n) (ap (λ (n : ℕ). most_sets * n) e ∙ h) (rows_fit' s w (symbol_count - w) most_sets t t' o)

    fits_old : length t.rows ≤ pairs_below w
    fits_old = rows_fit s w (symbol_count - w) most_sets t t' o

  place : (k a : ℕ) → k < most_sets → a < w → k * w + a < pairs_below w
  place k a h g = digits_lt h g

  -- all 0
  zero_at : (n : ℕ) (T : List ℕ) (i : ℕ) → i < n → get_or (pad n [] ++ T) i 0 ≡ 0
  zero_at n T i h = get_or-append (pad n []) T 0 i (omega (arith, length_pad n [] (omega arith))) ∙ get_or_pad_all n [] i

  cleared_rows : (T T' : List ℕ) → SameRows w (pad (bytes_below w) [] ++ T) (pad row_bytes [] ++ T')
  cleared_rows T T' =
      record {
        left = λ k a h g. zero_at row_bytes T' (symbol_count * k + a) (omega arith)
            ∙ sym (zero_at (bytes_below w) T (k * w + a) (omega (arith, place k a h g)));
        right = λ k a h g. zero_at row_bytes T' (pairs + k * symbol_count + a) (omega arith)
            ∙ sym (zero_at (bytes_below w) T (pairs_below w + (k * w + a)) (omega (arith, place k a h g)));
        left_new = λ k a h g l. zero_at row_bytes T' (symbol_count * k + a) (omega arith);
        right_new = λ k a h g l. zero_at row_bytes T' (pairs + k * symbol_count + a) (omega arith);
      }

  module _ (s r : ℕ) (L L' R R' : Table) (o : Same s w (symbol_count - w) most_sets L L') (p : Same r w (symbol_count - w) most_sets R R') where
    filled_rows : (T T' : List ℕ)
        → SameRows w (pad (pairs_below w) L.rows ++ (pad (pairs_below w) R.rows ++ T)) (pad pairs L'.rows ++ (pad pairs R'.rows ++ T'))
    filled_rows T T' =
        let l = fits_old s L L' o in let l' = fits_now s L L' o in
        let m = fits_old r R R' p in let m' = fits_now r R R' p in
        record {
          left = λ k a h g. part_one pairs _ _ T' l' m' (symbol_count * k + a) (omega arith) ∙ entry_old s L L' o k a g
              ∙ sym (part_one (pairs_below w) _ _ T l m (k * w + a) (place k a h g));
          right = λ k a h g. part_two pairs _ _ T' l' m' (symbol_count * k + a) (pairs + k * symbol_count + a) (omega arith) (omega arith)
              ∙ entry_old r R R' p k a g ∙ sym (part_two (pairs_below w) _ _ T l m (k * w + a) (pairs_below w + (k * w + a)) (place k a h g) refl);
          left_new = λ k a h g i. part_one pairs _ _ T' l' m' (symbol_count * k + a) (omega arith) ∙ entry_new s L L' o k a g i;
          right_new = λ k a h g i. part_two pairs _ _ T' l' m' (symbol_count * k + a) (pairs + k * symbol_count + a) (omega arith) (omega arith)
              ∙ entry_new r R R' p k a g i;
        }

    numbered_before : (T T' S : List ℕ) → AsBefore w (numbered_below w L R T S) (numbered L' R' T' S)
    unfolding numbered_below numbered
    numbered_before T T' S =
        subst₂ (λ (c d : Bool). AsBefore w (cond c (cleared_below w 13 T S) (cond d (cleared_below w 14 T S) (filled_below w L R T S))) (numbered L' R' T' S))
        (ap (λ (l : List ℕ). ltb most_sets (length l)) o.sets) (ap (λ (l : List ℕ). ltb most_sets (length l)) p.sets)
        (by (ltb most_sets (length L'.sets)) (ltb most_sets (length R'.sets)))
      where
        by : (c d : Bool) → AsBefore w (cond c (cleared_below w 13 T S) (cond d (cleared_below w 14 T S) (filled_below w L R T S)))
            (cond c (cleared 13 T' S) (cond d (cleared 14 T' S) (filled L' R' T' S)))
        by true d = record { answer = refl; sets = refl; rows = cleared_rows _ _ }
        by false true = record { answer = refl; sets = refl; rows = cleared_rows _ _ }
        by false false =
            record {
              answer = ap₂ (λ (x y : List ℕ). record { reply = 0; place = 0; left = length x; right = length y }) o.sets p.sets;
              sets = ap₂ (λ (x y : List ℕ). pad most_sets x ++ (pad most_sets y ++ drop set_words S)) o.sets p.sets;
              rows = filled_rows _ _;
            }

-- ---- BUILD

-- with as many symbols as there are
pub build_now : (book R S : List ℕ) → build_below symbol_count book R S ≡ build_def book R S
unfolding build_below build_def numbered_below numbered left_below left_table right_below right_table all
build_now book R S =
    let c = check_now book in
    let b = book_now book in
    λ i. cond (not (eqb (c i).reply 0)) (unchanged (c i).reply (c i).place R S)
    (cond (ltb (length R) row_bytes || ltb (length S) set_words) (unchanged 11 0 R S)
    (numbered (run_now (left_next (b i)) (left_first (b i)) pairs i) (run_now (right_prev (b i)) (right_last (b i)) pairs i) R S))

-- a book that the first w symbols accept, in a workspace that is long enough for either
module _ (w : ℕ) (fits : w ≤ symbol_count) (book R R₀ S : List ℕ) (z : (check_below w book).reply ≡ 0) where
  reply_0 : (check_def book).reply ≡ 0
  reply_0 = ap (λ (c : Checked). c.reply) (old_check w book z) ∙ z

  back : (a : ℕ) → w ≤ a → on_no_arc (book_of book) a ≡ true
  back a h = no_arc_lem w (book_of book) a (old_low w book z) h

  left_side : Same (left_first (book_of book)) w (symbol_count - w) most_sets (left_below w (book_of book)) (left_table (book_of book))
  unfolding left_below left_table
  left_side = side w (left_next (book_of book)) (left_first (book_of book)) fits (λ X a h. left_back (book_of book) X a (back a h))

  right_side : Same (right_last (book_of book)) w (symbol_count - w) most_sets (right_below w (book_of book)) (right_table (book_of book))
  unfolding right_below right_table
  right_side = side w (right_prev (book_of book)) (right_last (book_of book)) fits (λ X a h. right_back (book_of book) X a (back a h))

  pub build_before : row_bytes ≤ length R → bytes_below w ≤ length R₀ → set_words ≤ length S → AsBefore w (build_below w book R₀ S) (build_def book R S)
  unfolding build_below
  build_before h g l =
      subst₂ (AsBefore w) (sym old) (way_on book R S reply_0 h l)
      (numbered_before w fits _ _ _ _ _ _ left_side right_side R₀ R S)
    where
      old : build_below w book R₀ S ≡ numbered_below w (left_below w (book_of book)) (right_below w (book_of book)) R₀ S
      old =
          simp (eq-eqb _ _ z, le-ltb _ _ g, le-ltb _ _ l)
          (ap (λ (b : Book). numbered_below w (left_below w b) (right_below w b) R₀ S) (sym (old_book w book z)))
