-- The number of the left set, position after position. Assumes nothing.
use Prim.Native.Nat.{ℕ, ◌+◌, ◌<◌}
use mathlib.Core.Path.{◌≡◌, sym, ap, ◌∙◌}
use mathlib.Core.List.{List}
use native.Mathlib.Numerals.{add-one}
use lib.ListN.{length, get_or}
use Rattle.book.specs.Reading.{book_of}
use Rattle.sets.specs.Sets.{left_at, left_next}
use Rattle.sets.specs.Tables.{left_count, left_entry, left_set}
use Rattle.sets.proofs.Meaning.{left_first_lem, left_next_lem}
use Rattle.stretches.specs.Ready.{Ready}

-- k is the number of the left set at i
pub record LeftNumber (book tape sets : List ℕ) (k i : ℕ) : Type 0 where
  pub below : k < left_count book
  pub is : left_set sets k ≡ left_at (book_of book) tape i

module _ (book tape rows sets scratch : List ℕ) (ready : Ready book tape rows sets scratch) where
  pub left_start : LeftNumber book tape sets 0 0
  left_start = record { below = ready.left_some; is = ready.left_first_lem ∙ sym (left_first_lem (book_of book) tape) }

  pub left_turn : (k i k' : ℕ) → i < length tape → LeftNumber book tape sets k i → k' ≡ left_entry rows k (get_or tape i 0)
      → LeftNumber book tape sets k' (i + 1)
  left_turn k i k' h was e =
      let a = get_or tape i 0 in
      let known = ready.symbols i h in
      rw (e, add-one) (record {
        below = ready.left_below_lem k a was.below known;
        is = ready.left_next_lem k a was.below known ∙ ap (λ (X : ℕ). left_next (book_of book) X a) was.is ∙ sym (left_next_lem (book_of book) tape i h);
      })
