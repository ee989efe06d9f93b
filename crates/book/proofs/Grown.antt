-- An accepted book is what was read so far, with more states and arcs behind it. Assumes nothing.
use Prim.Native.Nat.{ℕ, zero, suc}
use mathlib.Core.Path.{◌≡◌, refl, ap, sym, ◌∙◌}
use mathlib.Core.List.{List, [], ◌∷◌, ◌++◌, append_assoc, append-nil}
use Rattle.book.specs.Format.{byte}
use Rattle.book.specs.Reading.{State, Arc, Book, state_at, arc_at, with_record, accepted, read_from}
use Rattle.book.proofs.Passed.{kind_rel}
use Rattle.book.proofs.Accepted.{Next, last, more, next, never}

pub record Grown (b B : Book) : Type 0 where
  pub states : List State
  pub arcs : List Arc
  pub all_states : B.states ≡ b.states ++ states
  pub all_arcs : B.arcs ≡ b.arcs ++ arcs

grown_none : (b B : Book) → B.states ≡ b.states → B.arcs ≡ b.arcs → Grown b B
grown_none b B e f = record { states = []; arcs = []; all_states = e ∙ sym (append-nil b.states); all_arcs = f ∙ sym (append-nil b.arcs) }

grown_then : (a b c : Book) → Grown a b → Grown b c → Grown a c
grown_then a b c p q =
    record {
      states = p.states ++ q.states;
      arcs = p.arcs ++ q.arcs;
      all_states = q.all_states ∙ ap (λ (l : List State). l ++ q.states) p.all_states ∙ append_assoc a.states p.states q.states;
      all_arcs = q.all_arcs ∙ ap (λ (l : List Arc). l ++ q.arcs) p.all_arcs ∙ append_assoc a.arcs p.arcs q.arcs;
    }

grown_record : (s : List ℕ) (at : ℕ) (b : Book) → Grown b (with_record s at b)
unfolding with_record
grown_record s at b =
    kind_rel (λ (x : Book) (y : Book). Grown b x) (byte s at) _ _ _ _ b b b b
    (λ _. grown_none b _ refl refl)
    (λ _. record { states = state_at s at b ∷ []; arcs = []; all_states = refl; all_arcs = sym (append-nil b.arcs) })
    (λ _. record { states = []; arcs = arc_at s at ∷ []; all_states = sym (append-nil b.states); all_arcs = refl })
    (grown_none b b refl refl)

grown_next : (n : ℕ) (s : List ℕ) (at : ℕ) (b B : Book) → Next n s at b B → ((at' : ℕ) (b' : Book) → read_from n s at' b' ≡ accepted B → Grown b' B)
    → Grown b B
grown_next n s at b B (last e k l q) ih = grown_none b B (ap (λ (c : Book). c.states) (sym q)) (ap (λ (c : Book). c.arcs) (sym q))
grown_next n s at b B (more e k h) ih = grown_then b (with_record s at b) B (grown_record s at b) (ih _ _ h)

pub grown : (n : ℕ) (s : List ℕ) (at : ℕ) (b B : Book) → read_from n s at b ≡ accepted B → Grown b B
unfolding read_from
grown zero s at b B h = absurd (never _ _ _ h)
grown (suc n) s at b B h = grown_next n s at b B (next n s at b B h) (λ at' b' h'. grown n s at' b' B h')
