-- Every symbol of an accepted text is a symbol of tapes: "label k means symbol k - 1", and a label above the number of symbols is 19. Assumes nothing.
use Prim.Native.Nat.{ℕ, zero, suc, ◌-◌, ◌<◌}
use mathlib.Core.Path.{◌≡◌, refl, ap, subst}
use mathlib.Core.List.{List, [], ◌∷◌, ◌++◌}
use mathlib.Core.Bool.{Bool, true, false, ◌&&◌, ◌||◌, not}
use native.Mathlib.Omega.{arith}
use lib.Dec.{eqb, leb}
use lib.ListN.{length, drop}
use borrow.Author.Tests.{leb-true, not-false}
use Rattle.book.specs.Format.{symbol_count}
use Rattle.book.proofs.Laws.{and_left, and_right}
use Rattle.att.specs.Fields.{field1, field2, field3, field_count, is_number, value}
use Rattle.att.specs.Reading.{labels, is_state, is_label, faulty, final_line, arc_line, line_in, ended, line_at}
use Rattle.att.specs.Text.{Said, arc, final, Read, accepted, turn, read_from, read_text, lines_in}
use Rattle.att.specs.Line.{Line, End, Final, Arc, Faulty}
use Rattle.att.proofs.Good.{pick_both}

abbrev Low : Line → Type 0
Low End = Unit {0}
Low (Final x next) = Unit {0}
Low (Arc x y a next) = a < symbol_count
Low (Faulty r) = Unit {0}

faulty_low : (t : Bool) (r : ℕ) (rest : Line) → (t ≡ false → Low rest) → Low (faulty t r rest)
faulty_low true r rest f = tt
faulty_low false r rest f = f refl

label_low : (v : ℕ) → (leb 1 v && leb v labels) ≡ true → v - 1 < symbol_count
label_low v e = let a = leb-true 1 v (and_left _ _ e) in let b = leb-true v labels (and_right (leb 1 v) _ e) in omega arith

arc_low : (l : List ℕ) (next : ℕ) → Low (arc_line l next)
unfolding arc_line
arc_low l next =
    faulty_low (not (is_state (field1 l))) 18 _ (λ _.
    faulty_low (not (is_state (field2 l))) 18 _ (λ _.
    faulty_low (not (is_number (field3 l))) 18 _ (λ _.
    faulty_low (not (is_label (field3 l))) 19 _ (λ e. label_low (value (field3 l)) (not-false _ e)))))

line_low : (l : List ℕ) (t : Bool) (next : ℕ) → Low (line_in l t next)
unfolding line_in final_line
line_low l t next =
    faulty_low (eqb (field_count l) 2 || eqb (field_count l) 4) 20 _ (λ _.
    faulty_low (not t) 18 _ (λ _.
    pick_both Low (eqb (field_count l) 1) _ _ (λ _. faulty_low (not (is_state (field1 l))) 18 _ (λ _. tt)) (λ _.
    pick_both Low (eqb (field_count l) 3) _ _ (λ _. arc_low l next) (λ _. tt))))

low_line : (s : List ℕ) (at : ℕ) → Low (line_at s at)
unfolding line_at
low_line s at = pick_both Low (leb (length s) at) _ _ (λ _. tt) (λ _. pick_both Low (ended (drop at s)) _ _ (λ _. line_low _ true _)
    (λ _. line_low _ false _))

-- of all lines
abbrev pub Symbols : List Said → Type 0
Symbols [] = Unit {0}
Symbols (arc x y a ∷ ls) = (a < symbol_count) × Symbols ls
Symbols (final x ∷ ls) = Symbols ls

symbols_final : (ls : List Said) (x : ℕ) → Symbols ls → Symbols (ls ++ (final x ∷ []))
symbols_final [] x h = tt
symbols_final (arc y z a ∷ ls) x h = (h.0, symbols_final ls x h.1)
symbols_final (final y ∷ ls) x h = symbols_final ls x h

symbols_arc : (ls : List Said) (x y a : ℕ) → a < symbol_count → Symbols ls → Symbols (ls ++ (arc x y a ∷ []))
symbols_arc [] x y a l h = (l, tt)
symbols_arc (arc u v c ∷ ls) x y a l h = (h.0, symbols_arc ls x y a l h.1)
symbols_arc (final u ∷ ls) x y a l h = symbols_arc ls x y a l h

symbols_turn : (l : Line) (at : ℕ) (done whole : List Said) (go : ℕ → List Said → Read)
    → ((next : ℕ) (more : List Said) → Symbols more → go next more ≡ accepted whole → Symbols whole) → Low l → Symbols done
    → turn l at done go ≡ accepted whole → Symbols whole
symbols_turn End at done whole go f b h e = subst Symbols (ap lines_in e) h
symbols_turn (Final x next) at done whole go f b h e = f next (done ++ (final x ∷ [])) (symbols_final done x h) e
symbols_turn (Arc x y a next) at done whole go f b h e = f next (done ++ (arc x y a ∷ [])) (symbols_arc done x y a b h) e
symbols_turn (Faulty r) at done whole go f b h e = let z : ◌≡◌ {A = ℕ} 0 1 = cc in let w : ⊥ = omega arith in absurd w

symbols_from_lem : (n : ℕ) (s : List ℕ) (at : ℕ) (done whole : List Said) → Symbols done → read_from n s at done ≡ accepted whole → Symbols whole
unfolding read_from
symbols_from_lem zero s at done whole h e = subst Symbols (ap lines_in e) h
symbols_from_lem (suc n) s at done whole h e =
    symbols_turn (line_at s at) at done whole (λ (next : ℕ) (more : List Said). read_from n s next more)
    (λ next more k q. symbols_from_lem n s next more whole k q) (low_line s at) h e

pub text_symbols : (s : List ℕ) (ls : List Said) → read_text s ≡ accepted ls → Symbols ls
unfolding read_text
text_symbols s ls e = symbols_from_lem _ s 0 [] ls tt e
