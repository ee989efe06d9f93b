-- A built workspace: what BUILD leaves with reply 0 are tables, walking their rows gives the number of the set over a tape, the workspace keeps its
-- length, and BUILD over what it left changes nothing. Assumes nothing.
use Prim.Native.Nat.{ℕ, ◌+◌, ◌*◌, ◌≤◌, ◌<◌}
use mathlib.Core.Path.{◌≡◌, refl, sym, ap, ap₂, ◌∙◌, subst}
use mathlib.Core.Bool.{Bool, true, false, cond}
use mathlib.Core.List.{List, [], ◌++◌}
use native.Mathlib.Omega.{arith}
use lib.Dec.{ltb}
use lib.ListN.{length, get_or, drop, length-append, length-drop, get_or-append}
use lib.Seq.{get_or-append-add, drop-drop, drop_at}
use Rattle.book.specs.Format.{symbol_count}
use Rattle.book.specs.Reading.{book_of}
use Rattle.sets.specs.Sets.{left_first, left_next, right_last, right_prev, after, before}
use Rattle.sets.specs.Numbering.{most_sets, pairs, Table, idx, pad}
use Rattle.sets.specs.Workspace.{row_bytes, set_words, left_table, right_table, AfterBuild, build_leaves, cleared, filled, numbered, build_def}
use Rattle.sets.specs.Tables.{left_count, right_count, left_entry, right_entry, left_set, right_set, Tape, Buildable, AsBuilt, Tables}
use Rattle.sets.specs.Counting.{left_over, right_over}
use Rattle.sets.specs.declared.Built.{Built}
use Rattle.sets.proofs.Pad.{length_pad, get_or_pad_all}
use Rattle.sets.proofs.Counting.{idx_distinct}
use Rattle.sets.proofs.Counting.{law_distinct, law_width, Half, half, walk_front, walk_end}
pub use Rattle.sets.proofs.WaysOut.{way_refused, way_rows, way_sets}
use Rattle.sets.proofs.WaysOut.{Way, refused, short, many_left, many_right, built, way, way_on, way_accepted, numbered_both, reply}

-- two parts of n elements, each with zeros after what it holds, and what stands past them
module _ (n : ℕ) (P Q T : List ℕ) (hp : length P ≤ n) (hq : length Q ≤ n) where
  pub part_one : (i : ℕ) → i < n → get_or (pad n P ++ (pad n Q ++ T)) i 0 ≡ get_or P i 0
  part_one i h = get_or-append (pad n P) _ 0 i (omega (arith, length_pad n P hp)) ∙ get_or_pad_all n P i

  pub part_two : (i j : ℕ) → i < n → j ≡ n + i → get_or (pad n P ++ (pad n Q ++ T)) j 0 ≡ get_or Q i 0
  part_two i j h e =
      let q : j ≡ length (pad n P) + i = omega (arith, length_pad n P hp) in
      ap (λ (k : ℕ). get_or (pad n P ++ (pad n Q ++ T)) k 0) q
      ∙ get_or-append-add (pad n P) (pad n Q ++ T) i 0
      ∙ get_or-append (pad n Q) T 0 i (omega (arith, length_pad n Q hq)) ∙ get_or_pad_all n Q i

  part_long : n + n ≤ length (pad n P ++ (pad n Q ++ T))
  part_long = simp length-append (omega (arith, length_pad n P hp, length_pad n Q hq))

module _ (book R S : List ℕ) (few : left_count book ≤ most_sets) (few' : right_count book ≤ most_sets) where
  pub left_width : length (left_table (book_of book)).rows ≤ pairs
  unfolding left_count left_table
  left_width = omega (arith, law_width _ _ few)

  pub right_width : length (right_table (book_of book)).rows ≤ pairs
  unfolding right_count right_table
  right_width = omega (arith, law_width _ _ few')

  filled_tables : (x : AfterBuild) → x ≡ filled (left_table (book_of book)) (right_table (book_of book)) R S → Tables book x.rows x.sets
  unfolding left_count right_count left_table right_table
  filled_tables x e =
      let b = book_of book in
      let er = ap (λ (y : AfterBuild). y.rows) e in
      let es = ap (λ (y : AfterBuild). y.sets) e in
      let l : Half (left_next b) (left_first b) (left_count book) (left_entry x.rows) (left_set x.sets) = half _ _ _ _ _ refl few
      (λ k a h g. rw er (part_one pairs _ _ _ left_width right_width (symbol_count * k + a) (omega arith)))
      (λ k h. rw es (part_one most_sets _ _ _ few few' k (omega arith)))
      in
      let r : Half (right_prev b) (right_last b) (right_count book) (right_entry x.rows) (right_set x.sets) = half _ _ _ _ _ refl few'
      (λ k a h g. rw er (part_two pairs _ _ _ left_width right_width (symbol_count * k + a) (pairs + k * symbol_count + a) (omega arith) (omega arith)))
      (λ k h. rw es (part_two most_sets _ _ _ few few' k (most_sets + k) (omega arith) refl))
      in
      record {
        rows_room = rw er (part_long pairs _ _ _ left_width right_width);
        sets_room = rw es (part_long most_sets _ _ _ few few');
        left_few = few;
        left_some = l.some;
        left_first_lem = l.first;
        left_below_lem = l.below;
        left_next_lem = l.step;
        left_once = l.once;
        right_few = few';
        right_some = r.some;
        right_first = r.first;
        right_below_lem = r.below;
        right_next = r.step;
        right_once = r.once;
      }

-- the door between the builder and its readers
pub tables : (book R S : List ℕ) → (build_def book R S).answer.reply ≡ 0 → Tables book (build_def book R S).rows (build_def book R S).sets
tables book R S z = let w = way_accepted book R S _ (way book R S) z in filled_tables book R S w.0 w.1 _ w.2

-- the same from the contract of `build`
pub built_tables : (book R S : List ℕ) (r : Built) (R' S' : List ℕ) → build_leaves r R' S' ≡ build_def book R S → r.reply ≡ 0 → Tables book R' S'
built_tables book R S r R' S' e z =
    subst (λ (x : AfterBuild). Tables book x.rows x.sets) (sym e) (tables book R S (sym (ap (λ (x : AfterBuild). x.answer.reply) e) ∙ z))

-- walking the rows along a tape, or from its end, gives the number of its set
module _ (book rows sets : List ℕ) (t : Tables book rows sets) where
  pub left_walk : (w : List ℕ) → Tape w
      → (after (left_entry rows) 0 w < left_count book) × (left_set sets (after (left_entry rows) 0 w) ≡ left_over (book_of book) w)
  left_walk =
      walk_front _ _ _ (left_entry rows) (left_set sets)
      (record { some = t.left_some; first = t.left_first_lem; below = t.left_below_lem; step = t.left_next_lem; once = t.left_once })

  pub right_walk : (w : List ℕ) → Tape w
      → (before 0 (right_entry rows) w < right_count book) × (right_set sets (before 0 (right_entry rows) w) ≡ right_over (book_of book) w)
  right_walk =
      walk_end _ _ _ (right_entry rows) (right_set sets)
      (record { some = t.right_some; first = t.right_first; below = t.right_below_lem; step = t.right_next; once = t.right_once })

-- the numbers that a walk gives are those of the numbering: the right set of number k stands where the table has it
module _ (book R S : List ℕ) (z : (build_def book R S).answer.reply ≡ 0) where
  right_place : (k : ℕ) → k < most_sets → right_set (build_def book R S).sets k ≡ get_or (right_table (book_of book)).sets k 0
  unfolding left_count right_count
  right_place k l =
      let w = way_accepted book R S _ (way book R S) z in
      ap (λ (y : AfterBuild). right_set y.sets k) w.2 ∙ part_two most_sets _ _ _ w.0 w.1 k (most_sets + k) l refl

  pub right_number_lem : (w : List ℕ) → Tape w
      → before 0 (right_entry (build_def book R S).rows) w ≡ idx (right_table (book_of book)).sets (right_over (book_of book) w)
  unfolding right_count right_table
  right_number_lem w t =
      let b = tables book R S z in
      let p = right_walk book _ _ b w t in
      let k = before 0 (right_entry (build_def book R S).rows) w in
      sym (idx_distinct (right_table (book_of book)).sets k (law_distinct _ _) p.0)
      ∙ ap (idx (right_table (book_of book)).sets) (sym (right_place k (omega (arith, b.right_few, p.0))) ∙ p.1)

-- ---- BUILD keeps the length of either piece of the workspace, for any book, rows and sets

-- what stands at the front, as long as what stood there
cleared_length : (n : ℕ) (l : List ℕ) → n ≤ length l → length (pad n [] ++ drop n l) ≡ length l
cleared_length n l h = simp (length-append, length-drop) (omega (arith, length_pad n [] (omega arith)))

filled_length : (n : ℕ) (P Q l : List ℕ) → length P ≤ n → length Q ≤ n → n + n ≤ length l → length (pad n P ++ (pad n Q ++ drop (n + n) l)) ≡ length l
filled_length n P Q l hp hq h = simp (length-append, length-drop) (omega (arith, length_pad n P hp, length_pad n Q hq))

module _ (book R S : List ℕ) where
  rows_kept : (x : AfterBuild) → Way book R S x → length x.rows ≡ length R
  rows_kept x (refused h e) = ap (λ (y : AfterBuild). length y.rows) e
  rows_kept x (short h s e) = ap (λ (y : AfterBuild). length y.rows) e
  rows_kept x (many_left o l e) = ap (λ (y : AfterBuild). length y.rows) e ∙ cleared_length row_bytes R o.rows
  rows_kept x (many_right o l r e) = ap (λ (y : AfterBuild). length y.rows) e ∙ cleared_length row_bytes R o.rows
  rows_kept x (built o l r e) =
      ap (λ (y : AfterBuild). length y.rows) e ∙ filled_length pairs _ _ R (left_width book R S l r) (right_width book R S l r) o.rows

  sets_kept : (x : AfterBuild) → Way book R S x → length x.sets ≡ length S
  unfolding left_count right_count
  sets_kept x (refused h e) = ap (λ (y : AfterBuild). length y.sets) e
  sets_kept x (short h s e) = ap (λ (y : AfterBuild). length y.sets) e
  sets_kept x (many_left o l e) = ap (λ (y : AfterBuild). length y.sets) e ∙ cleared_length set_words S o.sets
  sets_kept x (many_right o l r e) = ap (λ (y : AfterBuild). length y.sets) e ∙ cleared_length set_words S o.sets
  sets_kept x (built o l r e) = ap (λ (y : AfterBuild). length y.sets) e ∙ filled_length most_sets _ _ S l r o.sets

  pub build_rows : length (build_def book R S).rows ≡ length R
  build_rows = rows_kept (build_def book R S) (way book R S)

  pub build_sets : length (build_def book R S).sets ≡ length S
  build_sets = sets_kept (build_def book R S) (way book R S)

-- ---- an accepting BUILD has a book that CHECK accepts, and room
pub buildable : (book R S : List ℕ) → reply (build_def book R S) ≡ 0 → Buildable book R S
buildable book R S z = by (build_def book R S) (way book R S) z
  where
    by : (x : AfterBuild) → Way book R S x → reply x ≡ 0 → Buildable book R S
    by x (refused h e) z = absurd (h (sym (ap reply e) ∙ z))
    by x (short h s e) z = absurd (let q = ap reply e in omega arith)
    by x (many_left o l e) z = o
    by x (many_right o l r e) z = o
    by x (built o l r e) z = o

-- and it accepts wherever the book's sets are few and there is room
pub accepts : (book R S : List ℕ) → Buildable book R S → left_count book ≤ most_sets → right_count book ≤ most_sets
    → build_def book R S ≡ filled (left_table (book_of book)) (right_table (book_of book)) R S
unfolding left_count right_count
accepts book R S o l r = sym (way_on book R S o.accepted o.rows o.sets) ∙ numbered_both _ _ R S l r

-- what stands past two parts
past_parts : (n : ℕ) (P Q l : List ℕ) → length P ≤ n → length Q ≤ n → drop (n + n) (pad n P ++ (pad n Q ++ drop (n + n) l)) ≡ drop (n + n) l
past_parts n P Q l hp hq =
    sym (drop-drop n n (pad n P ++ (pad n Q ++ drop (n + n) l)))
    ∙ ap (drop n) (drop_at (pad n P) (pad n Q ++ drop (n + n) l) n (length_pad n P hp))
    ∙ drop_at (pad n Q) (drop (n + n) l) n (length_pad n Q hq)

-- "the workspace as BUILD leaves it": building again changes nothing
module _ (book R S : List ℕ) (z : (build_def book R S).answer.reply ≡ 0) where
  pub build_place : (build_def book R S).answer.place ≡ 0
  build_place = ap (λ (x : AfterBuild). x.answer.place) (way_accepted book R S _ (way book R S) z).2

  pub buildable_again : Buildable book (build_def book R S).rows (build_def book R S).sets
  buildable_again =
      let o = buildable book R S z in
      record { accepted = o.accepted; rows = omega (arith, o.rows, build_rows book R S); sets = omega (arith, o.sets, build_sets book R S) }

  pub build_again : build_def book (build_def book R S).rows (build_def book R S).sets ≡ build_def book R S
  unfolding left_count right_count
  build_again =
      let w = way_accepted book R S _ (way book R S) z in
      let er = ap (λ (x : AfterBuild). x.rows) w.2 in
      let es = ap (λ (x : AfterBuild). x.sets) w.2 in
      let b = book_of book in
      accepts book (build_def book R S).rows (build_def book R S).sets buildable_again w.0 w.1
      ∙ ap₂ (λ (x y : List ℕ). record {
        answer = record { reply = 0; place = 0; left = length (left_table b).sets; right = length (right_table b).sets };
        rows = pad pairs (left_table b).rows ++ (pad pairs (right_table b).rows ++ x);
        sets = pad most_sets (left_table b).sets ++ (pad most_sets (right_table b).sets ++ y);
      })
      (ap (drop row_bytes) er ∙ past_parts pairs (left_table b).rows (right_table b).rows R (left_width book R S w.0 w.1)
      (right_width book R S w.0 w.1))
      (ap (drop set_words) es ∙ past_parts most_sets (left_table b).sets (right_table b).sets S w.0 w.1)
      ∙ sym w.2

  pub as_built : AsBuilt book (build_def book R S).rows (build_def book R S).sets
  as_built = record {
    accepts = ap reply build_again ∙ z;
    same_rows = ap (λ (x : AfterBuild). x.rows) build_again;
    same_sets = ap (λ (x : AfterBuild). x.sets) build_again;
  }

-- ---- what stood in the workspace has no influence on the answer
numbered_answer : (left right : Table) (R S R' S' : List ℕ) → (numbered left right R S).answer ≡ (numbered left right R' S').answer
unfolding numbered
numbered_answer left right R S R' S' = by (ltb most_sets (length left.sets)) (ltb most_sets (length right.sets))
  where
    by : (a b : Bool) → (cond a (cleared 13 R S) (cond b (cleared 14 R S) (filled left right R S))).answer
        ≡ (cond a (cleared 13 R' S') (cond b (cleared 14 R' S') (filled left right R' S'))).answer
    by true b = refl
    by false true = refl
    by false false = refl

-- BUILD's answer
pub build_answer : (book R S R' S' : List ℕ) → Buildable book R S → Buildable book R' S' → (build_def book R S).answer ≡ (build_def book R' S').answer
build_answer book R S R' S' o o' =
    ap (λ (x : AfterBuild). x.answer) (sym (way_on book R S o.accepted o.rows o.sets))
    ∙ numbered_answer (left_table (book_of book)) (right_table (book_of book)) R S R' S'
    ∙ ap (λ (x : AfterBuild). x.answer) (way_on book R' S' o'.accepted o'.rows o'.sets)
