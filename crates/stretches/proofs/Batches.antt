-- The rules of a book are a batch of the paper; example 3.8. Assumes nothing.
use Prim.Native.Nat.{ℕ}
use mathlib.Core.List.{List, [], ◌∷◌, Memᴰ}
use mathlib.Core.Path.{◌≡◌, subst, sym}
use mathlib.Core.Logic.{◌↔◌}
use Rattle.book.specs.Format.{left_part, right_part}
use Rattle.book.specs.Reading.{Book}
use Rattle.book.specs.Language.{rules, rules_in, accepts}
use Rattle.book.proofs.Contexts.{some_end_lem, some_front_lem}
use Rattle.stretches.specs.Paper.{Context, start, end, RC, BookRC, CLML}
use Rattle.stretches.specs.Books.{book_p}
use Rattle.stretches.specs.Table.{tape8, taken8}
use Rattle.stretches.proofs.Stretches.{stretch, taken_paper}

pub book_rc : (b : Book) (t : List ℕ) (r : ℕ) (c : Context) → BookRC b t r c ↔ RC (rules b) t r c
book_rc b t r c = (
  λ x. record {
    left = (some_end_lem (accepts b r left_part) c.u).1 x.left;
    focus = x.focus;
    right = (some_front_lem (accepts b r right_part) c.w).1 x.right;
    whole = x.whole;
  },
  λ x. record {
    left = (some_end_lem (accepts b r left_part) c.u).0 x.left;
    focus = x.focus;
    right = (some_front_lem (accepts b r right_part) c.w).0 x.right;
    whole = x.whole;
  },
)

-- example 3.8: C_LML has just the contexts from 1 to 6 and from 8 to 10
pub example8 : (i j : ℕ)
    → ((c : Context) × CLML (rules_in book_p) tape8 c × (start c ≡ i) × (end c ≡ j)) ↔ Memᴰ (stretch i j) (stretch 1 6 ∷ stretch 8 10 ∷ [])
example8 i j = (
  λ z. subst (Memᴰ (stretch i j)) taken8 ((taken_paper (rules_in book_p) tape8 i j).1 z),
  λ m. (taken_paper (rules_in book_p) tape8 i j).0
      (subst (Memᴰ (stretch i j)) (sym taken8) m),
)
