-- What holds of every line: a good line lies in the text and ends after its start; a refusal is not 0.
use Prim.Native.Nat.{ℕ, ◌+◌, ◌≤◌, ◌<◌}
use mathlib.Core.Path.{◌≡◌, refl}
use mathlib.Core.List.{List}
use mathlib.Core.Bool.{Bool, true, false, ◌||◌, not}
use native.Mathlib.Omega.{arith}
use lib.Dec.{eqb, leb}
use lib.ListN.{length, drop, length-drop}
use borrow.Author.Tests.{ltb-true, leb-true, leb-false}
use Rattle.att.specs.Fields.{field1, field2, field3, field_count, is_number}
use Rattle.att.specs.Reading.{is_state, is_label, faulty, final_line, arc_line, pick_line, line_in, line_of, ended, line_at}
use Rattle.att.specs.Line.{Line, End, Final, Arc, Faulty}

abbrev pub Good : ℕ → ℕ → Line → Type 0
Good at n End = n ≤ at
Good at n (Final x next) = (at < next) × (next ≤ n)
Good at n (Arc x y a next) = (at < next) × (next ≤ n)
Good at n (Faulty r) = r ≡ 0 → ⊥

faulty_both : (P : Line → Type 0) (t : Bool) (r : ℕ) (rest : Line) → P (Faulty r) → P rest → P (faulty t r rest)
faulty_both P true r rest a b = a
faulty_both P false r rest a b = b

pub pick_both : (P : Line → Type 0) (t : Bool) (a b : Line) → (t ≡ true → P a) → (t ≡ false → P b) → P (pick_line t a b)
pick_both P true a b f g = f refl
pick_both P false a b f g = g refl

module _ (at n : ℕ) where
  refusal : (r : ℕ) → 0 < r → Good at n (Faulty r)
  refusal r h e = omega arith

  final_good : (l : List ℕ) (next : ℕ) → at < next → next ≤ n → Good at n (final_line l next)
  unfolding final_line
  final_good l next h k = faulty_both (Good at n) (not (is_state (field1 l))) 18 _ (refusal 18 (omega arith)) (h, k)

  arc_good : (l : List ℕ) (next : ℕ) → at < next → next ≤ n → Good at n (arc_line l next)
  unfolding arc_line
  arc_good l next h k =
      faulty_both (Good at n) (not (is_state (field1 l))) 18 _ (refusal 18 (omega arith))
      (faulty_both (Good at n) (not (is_state (field2 l))) 18 _ (refusal 18 (omega arith))
      (faulty_both (Good at n) (not (is_number (field3 l))) 18 _ (refusal 18 (omega arith))
      (faulty_both (Good at n) (not (is_label (field3 l))) 19 _ (refusal 19 (omega arith)) (h, k))))

  line_good : (l : List ℕ) (next : ℕ) → at < next → next ≤ n → Good at n (line_in l true next)
  unfolding line_in
  line_good l next h k =
      faulty_both (Good at n) (eqb (field_count l) 2 || eqb (field_count l) 4) 20 _ (refusal 20 (omega arith))
      (pick_both (Good at n) (eqb (field_count l) 1) _ _ (λ e. final_good l next h k)
      (λ e. pick_both (Good at n) (eqb (field_count l) 3) _ _ (λ f. arc_good l next h k) (λ f. refusal 18 (omega arith))))

  cut_good : (l : List ℕ) (next : ℕ) → Good at n (line_in l false next)
  unfolding line_in
  cut_good l next = faulty_both (Good at n) (eqb (field_count l) 2 || eqb (field_count l) 4) 20 _ (refusal 20 (omega arith)) (refusal 18 (omega arith))

pub good_line : (s : List ℕ) (at : ℕ) → Good at (length s) (line_at s at)
unfolding line_at
good_line s at =
    pick_both (Good at (length s)) (leb (length s) at) _ _ (λ e. leb-true _ _ e)
    (λ e. pick_both (Good at (length s)) (ended (drop at s)) _ _
    (λ f.
    let h : length (line_of (drop at s)) < length (drop at s) = ltb-true _ _ f in
    let k : at < length s = leb-false _ _ e in
    let d = length-drop at s in
    line_good at (length s) (line_of (drop at s)) (at + length (line_of (drop at s)) + 1) (omega arith) (omega arith))
    (λ f. cut_good at (length s) (line_of (drop at s)) 0))
