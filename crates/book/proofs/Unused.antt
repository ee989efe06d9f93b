-- A symbol that no arc is open to stands in no word of any part, so no rule looks across it. Assumes nothing.
use Prim.Native.Nat.{ℕ, ◌≤◌}
use mathlib.Core.List.{List, [], ◌∷◌, ◌++◌, Memᴰ}
use mathlib.Core.Bool.{Bool, false, true, not, ◌&&◌, ◌||◌, and-false, or-false}
use mathlib.Core.Path.{◌≡◌, subst, sym, ap, ◌∙◌}
use mathlib.Core.Logic.{◌↔◌}
use borrow.Author.Tests.{not-true, le-leb, leb-true}
use lib.Dec.{T, eqb, leb, not_T}
use lib.ListN.{length}
use Rattle.book.specs.Format.{left_part, focus_part, right_part}
use Rattle.book.specs.Reading.{Arc, Book}
use Rattle.book.specs.Language.{any, up_from, open_to, opens, leads, is_start, is_accept, some_state, accepts, some_end, some_front, rules}
use Rattle.book.specs.Unused.{on_arc, on_no_arc, Blind}
use Rattle.book.proofs.Laws.{and_left, and_right}
use Rattle.book.proofs.Tests.{same_test, any_in, any_out}
use Rattle.book.proofs.Some.{any_none, any_apart}

-- ---- languages without m
module _ (m : ℕ) where
  -- no word with m in it is in the language
  abbrev Shut : (List ℕ → Bool) → Type 0
  Shut f = (x y : List ℕ) → f (x ++ (m ∷ y)) ≡ false

  end_shut : (f : List ℕ → Bool) → Shut f → (x y : List ℕ) → some_end f (x ++ (m ∷ y)) ≡ some_end f y
  end_shut f h [] y = ap (λ (c : Bool). c || some_end f y) (h [] y)
  end_shut f h (a ∷ x) y = ap (λ (c : Bool). c || some_end f (x ++ (m ∷ y))) (h (a ∷ x) y) ∙ end_shut f h x y

  front_none : (f : List ℕ → Bool) → ((w : List ℕ) → f w ≡ false) → (y : List ℕ) → some_front f y ≡ false
  front_none f h [] = h []
  front_none f h (a ∷ y) =
      ap (λ (c : Bool). c || some_front (λ (u : List ℕ). f (a ∷ u)) y) (h []) ∙ front_none (λ (u : List ℕ). f (a ∷ u)) (λ w. h (a ∷ w)) y

  front_shut : (f : List ℕ → Bool) → Shut f → (x y : List ℕ) → some_front f (x ++ (m ∷ y)) ≡ some_front f x
  front_shut f h [] y = ap (λ (c : Bool). f [] || c) (front_none (λ (u : List ℕ). f (m ∷ u)) (λ w. h [] w) y) ∙ or-false (f [])
  front_shut f h (a ∷ x) y = ap (λ (c : Bool). f [] || c) (front_shut (λ (u : List ℕ). f (a ∷ u)) (λ v w. h (a ∷ v) w) x y)

-- ---- the parts of a book
on_arc_lem : (m : ℕ) (x : Arc) → x.low ≤ m → m ≤ x.high → on_arc m x ≡ true
on_arc_lem m x l h = rw (le-leb x.low m l, le-leb m x.high h)

on_arc_says : (m : ℕ) (x : Arc) → on_arc m x ≡ true → (x.low ≤ m) × (m ≤ x.high)
on_arc_says m x e = (
  leb-true x.low m (and_left (leb x.low m) (leb m x.high) e),
  leb-true m x.high (and_right (leb x.low m) (leb m x.high) e),
)

module _ (b : Book) (m : ℕ) where
  -- what the test says: m is from the lowest to the highest symbol of no arc
  pub no_arc_says : (on_no_arc b m ≡ true) ↔ ((x : Arc) → Memᴰ x b.arcs → x.low ≤ m → m ≤ x.high → ⊥)
  unfolding on_no_arc
  no_arc_says = (
    λ e x i l h. subst T (not-true (any (on_arc m) b.arcs) e) (any_in (on_arc m) i (subst T (sym (on_arc_lem m x l h)) tt)),
    λ f. same_test (not (any (on_arc m) b.arcs)) true (
      λ _. tt,
      λ _. not_T (any (on_arc m) b.arcs) (λ t.
          let z = any_out (on_arc m) b.arcs t in
          let h = on_arc_says m z.0 (same_test (on_arc m z.0) true (λ _. tt, λ _. z.2)) in
          f z.0 z.1 h.0 h.1),
    ),
  )

  module _ (shut : on_no_arc b m ≡ true) where
    -- a test that asks for an arc open to m fails
    pub no_open : (f : Arc → Bool) → ((x : Arc) → open_to x m ≡ false → f x ≡ false) → any f b.arcs ≡ false
    unfolding on_no_arc
    no_open f h = any_apart f (on_arc m) h b.arcs (not-true (any (on_arc m) b.arcs) shut)

    leads_none : (p : ℕ) (x y : List ℕ) (q : ℕ) → leads b.arcs p (x ++ (m ∷ y)) q ≡ false
    unfolding leads
    leads_none p [] y q =
        no_open (λ (z : Arc). opens z p m && leads b.arcs z.to y q) (λ z e.
        ap (λ (c : Bool). (eqb z.from p && c) && leads b.arcs z.to y q) e
        ∙ ap (λ (c : Bool). c && leads b.arcs z.to y q) (and-false (eqb z.from p)))
    leads_none p (a ∷ x) y q =
        any_none (λ (z : Arc). opens z p a && leads b.arcs z.to (x ++ (m ∷ y)) q)
        (λ z. ap (λ (c : Bool). opens z p a && c) (leads_none z.to x y q) ∙ and-false (opens z p a)) b.arcs

    accepts_none : (r part : ℕ) → Shut m (accepts b r part)
    unfolding accepts
    accepts_none r part x y =
        any_none (λ (p : ℕ). is_start b r part p && some_state b (λ (q : ℕ). is_accept b r part q && leads b.arcs p (x ++ (m ∷ y)) q))
        (λ p. ap (λ (c : Bool). is_start b r part p && c)
        (any_none (λ (q : ℕ). is_accept b r part q && leads b.arcs p (x ++ (m ∷ y)) q)
        (λ q. ap (λ (c : Bool). is_accept b r part q && c) (leads_none p x y q) ∙ and-false (is_accept b r part q)) (up_from 0 (length b.states)))
        ∙ and-false (is_start b r part p))
        (up_from 0 (length b.states))

    pub blind : Blind m (rules b)
    blind = record {
      left = λ r. end_shut m (accepts b r left_part) (accepts_none r left_part);
      focus = λ r. accepts_none r focus_part;
      right = λ r. front_shut m (accepts b r right_part) (accepts_none r right_part);
    }
