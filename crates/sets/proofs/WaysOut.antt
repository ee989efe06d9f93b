-- The ways of BUILD: what each way out of the code leaves is what the definition says, and the definition has no other way. Assumes nothing.
use Prim.Native.Nat.{ℕ, ◌+◌, ◌≤◌, ◌<◌}
use mathlib.Core.Path.{◌≡◌, refl, sym, ap, ap₂, ◌∙◌}
use mathlib.Core.Logic.{◌⊎◌, inl, inr}
use mathlib.Core.Bool.{true, false, ◌||◌, or-true}
use mathlib.Core.List.{List, [], ◌++◌}
use native.Mathlib.Omega.{arith}
use native.Mathlib.Decide.{dec_lt, ℕ_discrete}
use lib.Dec.{ltb}
use lib.ListN.{length, drop}
use lib.Seq.{drop-drop}
use borrow.Author.Tests.{eq-eqb, ne_eqb, lt-ltb, le-ltb}
use Rattle.book.specs.Reading.{Book, check_def, book_of}
use Rattle.sets.specs.Numbering.{most_sets, pairs, Table, pad}
use Rattle.sets.specs.Workspace.{row_bytes, set_words, left_table, right_table, AfterBuild, build_leaves}
use Rattle.sets.specs.Workspace.{refusal, unchanged, cleared, filled, numbered, build_def}
use Rattle.sets.specs.Tables.{left_count, right_count, Buildable}
use Rattle.sets.specs.Sides.{side_first, side_step, side_table, NumberedAt}
use Rattle.sets.specs.declared.Built.{Built}
use Rattle.sets.proofs.Parts.{three}

-- the two sides by their names
pub by_name : (b : Book) (R S : List ℕ) → numbered (side_table b false) (side_table b true) R S ≡ numbered (left_table b) (right_table b) R S
unfolding side_table left_table right_table side_step side_first
by_name b R S = refl

module _ (book R S : List ℕ) where
  -- CHECK's refusals, and a workspace that is too short: nothing is changed
  pub way_refused : (r : Built) → ((check_def book).reply ≡ 0 → ⊥)
      → r ≡ refusal (check_def book).reply (check_def book).place → build_leaves r R S ≡ build_def book R S
  unfolding build_def
  way_refused r h e = simp (ne_eqb _ _ h) (ap (λ (a : Built). build_leaves a R S) e)

  module _ (z : (check_def book).reply ≡ 0) where
    way_short : (ltb (length R) row_bytes || ltb (length S) set_words) ≡ true → build_leaves (refusal 11 0) R S ≡ build_def book R S
    unfolding build_def
    way_short e = simp (eq-eqb _ _ z, e)

    pub way_rows : (r : Built) → length R < row_bytes → r ≡ refusal 11 0 → build_leaves r R S ≡ build_def book R S
    way_rows r h e = ap (λ (a : Built). build_leaves a R S) e ∙ way_short (simp (lt-ltb _ _ h))

    pub way_sets : (r : Built) → length S < set_words → r ≡ refusal 11 0 → build_leaves r R S ≡ build_def book R S
    way_sets r h e = ap (λ (a : Built). build_leaves a R S) e ∙ way_short (simp (lt-ltb _ _ h, or-true))

    -- else both sides are numbered
    pub way_on : row_bytes ≤ length R → set_words ≤ length S → numbered (left_table (book_of book)) (right_table (book_of book)) R S ≡ build_def book R S
    unfolding build_def
    way_on h g = simp (eq-eqb _ _ z, le-ltb _ _ h, le-ltb _ _ g)

-- what lies past both parts
past : (a m : ℕ) (l l' : List ℕ) → drop a l' ≡ drop a l → drop (a + m) l' ≡ drop (a + m) l
past a m l l' e = sym (drop-drop m a l') ∙ ap (drop m) e ∙ drop-drop m a l

-- an accepted book in a workspace that is long enough: more left sets than the most, more right ones, or neither
module _ (left right : Table) (R S : List ℕ) where
  pub numbered_left : most_sets < length left.sets → numbered left right R S ≡ cleared 13 R S
  unfolding numbered
  numbered_left h = simp (lt-ltb _ _ h)

  pub numbered_right : length left.sets ≤ most_sets → most_sets < length right.sets → numbered left right R S ≡ cleared 14 R S
  unfolding numbered
  numbered_right h g = simp (le-ltb _ _ h, lt-ltb _ _ g)

  pub numbered_both : length left.sets ≤ most_sets → length right.sets ≤ most_sets → numbered left right R S ≡ filled left right R S
  unfolding numbered
  numbered_both h g = simp (le-ltb _ _ h, le-ltb _ _ g)

module _ (left right : Table) (R S : List ℕ) (n : ℕ) (R₁ S₁ : List ℕ) (one : NumberedAt left n 0 0 R S R₁ S₁) where
  -- 13: both parts all 0
  pub way_left : (r : Built) (R₂ S₂ : List ℕ) → most_sets < n
      → R₂ ≡ pad row_bytes [] ++ drop row_bytes R₁ → S₂ ≡ pad set_words [] ++ drop set_words S₁ → r ≡ refusal 13 0
      → build_leaves r R₂ S₂ ≡ numbered left right R S
  way_left r R₂ S₂ o er es e =
      let rows = er ∙ ap (λ (l : List ℕ). pad row_bytes [] ++ l) (past pairs pairs R R₁ one.rows_after) in
      let sets = es ∙ ap (λ (l : List ℕ). pad set_words [] ++ l) (past most_sets most_sets S S₁ one.sets_after) in
      (λ i. build_leaves (e i) (rows i) (sets i)) ∙ sym (numbered_left left right R S (one.numbered.over o))

  module _ (few : n ≤ most_sets) (m : ℕ) (R₂ S₂ : List ℕ) (two : NumberedAt right m pairs most_sets R₁ S₁ R₂ S₂) where
    fits : length left.sets ≤ most_sets
    fits = omega (arith, one.numbered.count few)

    -- 14: both parts all 0
    pub way_right : (r : Built) (R₃ S₃ : List ℕ) → most_sets < m
        → R₃ ≡ pad row_bytes [] ++ drop row_bytes R₂ → S₃ ≡ pad set_words [] ++ drop set_words S₂ → r ≡ refusal 14 0
        → build_leaves r R₃ S₃ ≡ numbered left right R S
    way_right r R₃ S₃ o er es e =
        let rows = er ∙ ap (λ (l : List ℕ). pad row_bytes [] ++ l) (two.rows_after ∙ past pairs pairs R R₁ one.rows_after) in
        let sets = es ∙ ap (λ (l : List ℕ). pad set_words [] ++ l) (two.sets_after ∙ past most_sets most_sets S S₁ one.sets_after) in
        (λ i. build_leaves (e i) (rows i) (sets i)) ∙ sym (numbered_right left right R S fits (two.numbered.over o))

    -- 0: the left part, the right part, and what stood past them
    pub way_built : (r : Built) → m ≤ most_sets → r ≡ record { reply = 0; place = 0; left = n; right = m } → build_leaves r R₂ S₂ ≡ numbered left right R S
    way_built r k e =
        let answer = e ∙ ap₂ (λ (x y : ℕ). record { reply = 0; place = 0; left = x; right = y }) (one.numbered.count few) (two.numbered.count k) in
        let rows : R₂ ≡ pad pairs left.rows ++ (pad pairs right.rows ++ drop row_bytes R) =
        three pairs pairs R₂
        ∙ ap₂ ◌++◌ (two.rows_before ∙ one.numbered.rows few)
        (ap₂ ◌++◌ (two.numbered.rows k) (two.rows_after ∙ past pairs pairs R R₁ one.rows_after))
        in
        let sets : S₂ ≡ pad most_sets left.sets ++ (pad most_sets right.sets ++ drop set_words S) =
        three most_sets most_sets S₂
        ∙ ap₂ ◌++◌ (two.sets_before ∙ one.numbered.sets few)
        (ap₂ ◌++◌ (two.numbered.sets k) (two.sets_after ∙ past most_sets most_sets S S₁ one.sets_after))
        in
        (λ i. build_leaves (answer i) (rows i) (sets i)) ∙ sym (numbered_both left right R S fits (omega (arith, two.numbered.count k)))

-- the ways of BUILD, in the order of the replies
pub data Way (book R S : List ℕ) (x : AfterBuild) : Type 0 where
  refused : ((check_def book).reply ≡ 0 → ⊥) → x ≡ unchanged (check_def book).reply (check_def book).place R S → Way book R S x
  short : (check_def book).reply ≡ 0 → (length R < row_bytes) ⊎ (length S < set_words) → x ≡ unchanged 11 0 R S → Way book R S x
  many_left : Buildable book R S → most_sets < left_count book → x ≡ cleared 13 R S → Way book R S x
  many_right : Buildable book R S → left_count book ≤ most_sets → most_sets < right_count book → x ≡ cleared 14 R S → Way book R S x
  built : Buildable book R S → left_count book ≤ most_sets → right_count book ≤ most_sets
      → x ≡ filled (left_table (book_of book)) (right_table (book_of book)) R S → Way book R S x

module _ (book R S : List ℕ) where
  on : Buildable book R S → build_def book R S ≡ numbered (left_table (book_of book)) (right_table (book_of book)) R S
  on o = sym (way_on book R S o.accepted o.rows o.sets)

  buildable_way : (o : Buildable book R S) → Dec (most_sets < left_count book) → Dec (most_sets < right_count book) → Way book R S (build_def book R S)
  unfolding left_count right_count
  buildable_way o (yes h) d = many_left o h (on o ∙ numbered_left _ _ R S h)
  buildable_way o (no h) (yes g) = many_right o (omega arith) g (on o ∙ numbered_right _ _ R S (omega arith) g)
  buildable_way o (no h) (no g) = built o (omega arith) (omega arith) (on o ∙ numbered_both _ _ R S (omega arith) (omega arith))

  checked_way : (check_def book).reply ≡ 0 → Dec (length R < row_bytes) → Dec (length S < set_words) → Way book R S (build_def book R S)
  checked_way z (yes h) d = short z (inl h) (sym (way_rows book R S z _ h refl))
  checked_way z (no h) (yes g) = short z (inr g) (sym (way_sets book R S z _ g refl))
  checked_way z (no h) (no g) = buildable_way (record { accepted = z; rows = omega arith; sets = omega arith }) (dec_lt _ _) (dec_lt _ _)

  pub way : Way book R S (build_def book R S)
  way = by (ℕ_discrete (check_def book).reply 0)
    where
      by : Dec ((check_def book).reply ≡ 0) → Way book R S (build_def book R S)
      by (yes z) = checked_way z (dec_lt _ _) (dec_lt _ _)
      by (no h) = refused h (sym (way_refused book R S _ h refl))

abbrev pub reply : AfterBuild → ℕ
reply x = x.answer.reply

-- with reply 0 it is the last of them
pub way_accepted : (book R S : List ℕ) (x : AfterBuild) → Way book R S x → reply x ≡ 0
    → (left_count book ≤ most_sets) × (right_count book ≤ most_sets) × (x ≡ filled (left_table (book_of book)) (right_table (book_of book)) R S)
way_accepted book R S x (refused h e) z = absurd (h (sym (ap reply e) ∙ z))
way_accepted book R S x (short h s e) z = absurd (let q = ap reply e in omega arith)
way_accepted book R S x (many_left o l e) z = absurd (let q = ap reply e in omega arith)
way_accepted book R S x (many_right o l r e) z = absurd (let q = ap reply e in omega arith)
way_accepted book R S x (built o l r e) z = (l, r, e)
