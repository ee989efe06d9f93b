-- "Repeated arcs do no harm": two lists with the same arcs, in any order and however often each, give every part the same words. And "a part
-- without states accepts no word". Assumes nothing.
use Prim.Native.Nat.{ℕ, ◌<◌}
use mathlib.Core.List.{List, [], ◌∷◌, Memᴰ}
use mathlib.Core.Bool.{Bool, false, ◌&&◌}
use mathlib.Core.Path.{◌≡◌, refl, ap, subst, ◌∙◌}
use mathlib.Core.Logic.{◌↔◌}
use native.Mathlib.Omega.{arith}
use lib.Dec.{T, eqb}
use lib.ListN.{length}
use Rattle.book.specs.Reading.{Arc, Book}
use Rattle.book.specs.Language.{any, opens, leads, state_of, flagged, is_start, is_accept, some_state, accepts}
use Rattle.book.proofs.Tests.{and_both, and_left, and_right, same_test, any_in, any_out, any_up}

-- each arc of the one is in the other
abbrev pub SameArcs : List Arc → List Arc → Type 0
SameArcs A B = (x : Arc) → Memᴰ x A ↔ Memᴰ x B

any_same : (f : Arc → Bool) (A B : List Arc) → SameArcs A B → any f A ≡ any f B
any_same f A B e = same_test (any f A) (any f B) (
  λ t. let z = any_out f A t in any_in f ((e z.0).0 z.1) z.2,
  λ t. let z = any_out f B t in any_in f ((e z.0).1 z.1) z.2,
)

pub same_runs : (A B : List Arc) → SameArcs A B → (p : ℕ) (w : List ℕ) (q : ℕ) → leads A p w q ≡ leads B p w q
unfolding leads
same_runs A B e p [] q = refl
same_runs A B e p (a ∷ w) q =
    ap (λ (f : Arc → Bool). any f A) (λ i x. opens x p a && same_runs A B e x.to w q i)
    ∙ any_same (λ (x : Arc). opens x p a && leads B x.to w q) A B e

-- the book with other arcs
abbrev pub with_arcs : Book → List Arc → Book
with_arcs b A = record { words = b.words; states = b.states; arcs = A; first = b.first }

pub same_words : (b : Book) (A B : List Arc) → SameArcs A B → (r part : ℕ) (w : List ℕ) → accepts (with_arcs b A) r part w ≡ accepts (with_arcs b B) r part w
unfolding accepts is_start is_accept
same_words b A B e r part w =
    λ i. some_state b (λ (p : ℕ). is_start b r part p && some_state b (λ (q : ℕ). is_accept b r part q && same_runs A B e p w q i))

pub no_states : (b : Book) (r part : ℕ) → ((s : ℕ) → s < length b.states → (eqb (state_of b s).rule r && eqb (state_of b s).part part) ≡ false)
    → (w : List ℕ) → accepts b r part w ≡ false
unfolding accepts is_start
no_states b r part none w = same_test (accepts b r part w) false (no_one, λ t. absurd t)
  where
    no_one : T (accepts b r part w) → ⊥
    no_one t =
        let z = (any_up _ 0 (length b.states)).0 t in
        let s = z.0 in
        let R = eqb (state_of b s).rule r in let P = eqb (state_of b s).part part in let F = flagged 1 (state_of b s).flags in
        let q = and_left (R && (P && F)) _ z.3 in
        subst T (none s (omega (arith, z.2))) (and_both R P (and_left R (P && F) q) (and_left P F (and_right R (P && F) q)))
