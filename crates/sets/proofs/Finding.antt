-- The number of a set among those met before: the search for it from place i on stops there, goes on, or is at its end. Assumes nothing.
use Prim.Native.Nat.{ℕ, suc, ◌+◌, ◌<◌}
use mathlib.Core.Path.{◌≡◌, sym, ◌∙◌}
use mathlib.Core.List.{List}
use native.Mathlib.Omega.{arith}
use native.Mathlib.Decide.{dec_lt}
use native.Mathlib.Nat.{le_of_eq}
use native.Mathlib.Numerals.{add-one}
use lib.ListN.{length, get_or, drop, drop_of_length-le}
use lib.Seq.{drop-cons}
use borrow.Author.Tests.{lt-ltb, le-ltb}
use Rattle.std.proofs.Common.{None, Some}
use Rattle.book.proofs.Idx.{idx_le, idx_same, idx_other, idx_nil}
use Rattle.sets.specs.Numbering.{idx}
use Rattle.sets.specs.Sides.{number_in}

module _ (S : List ℕ) (x : ℕ) where
  pub search_stop : (i : ℕ) → i < length S → get_or S i 0 ≡ x → idx (drop i S) x ≡ 0
  search_stop i h e = rw (drop-cons S i 0 h) (idx_same _ _ x e)

  pub search_on : (i : ℕ) → i < length S → (get_or S i 0 ≡ x → ⊥) → idx (drop i S) x ≡ suc (idx (drop (i + 1) S) x)
  search_on i h e = rw (add-one, drop-cons S i 0 h) (idx_other _ _ x e)

  pub search_end : (i : ℕ) → i ≡ length S → idx (drop i S) x ≡ 0
  search_end i e = rw (drop_of_length-le S (le_of_eq (sym e))) (idx_nil x)

  -- it is there with that number, or it is not there
  pub found : (i : ℕ) → i < length S → idx S x ≡ i → Some i ≡ number_in S x
  unfolding number_in
  found i h e = rw (e, lt-ltb i (length S) h)

  pub missed : idx S x ≡ length S → None ≡ number_in S x
  unfolding number_in
  missed e = rw (e, le-ltb (length S) (length S) (omega arith))

  -- and the other way
  pub found_is : (i : ℕ) → Some i ≡ number_in S x → (i ≡ idx S x) × (i < length S)
  unfolding number_in
  found_is i e = go (dec_lt (idx S x) (length S))
    where
      go : Dec (idx S x < length S) → (i ≡ idx S x) × (i < length S)
      go (yes h) = let q : Some i ≡ Some (idx S x) = e ∙ simp (lt-ltb (idx S x) (length S) h) in let r : i ≡ idx S x = cc in (r, omega arith)
      go (no h) = let q : Some i ≡ None = e ∙ simp (le-ltb (idx S x) (length S) (omega arith)) in cc

  pub missed_is : None ≡ number_in S x → idx S x ≡ length S
  unfolding number_in
  missed_is e = go (dec_lt (idx S x) (length S))
    where
      go : Dec (idx S x < length S) → idx S x ≡ length S
      go (yes h) = let q : None ≡ Some (idx S x) = e ∙ simp (lt-ltb (idx S x) (length S) h) in cc
      go (no h) = omega (arith, idx_le S x)
