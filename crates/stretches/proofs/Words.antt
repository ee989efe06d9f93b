-- A context is a stretch of the tape: cuts of a tape at two positions. Assumes nothing.
use Prim.Native.Nat.{ℕ, ◌≤◌}
use mathlib.Core.List.{List, [], ◌∷◌, ◌++◌, append_assoc}
use mathlib.Core.Path.{◌≡◌, refl, sym, ap, ◌∙◌}
use native.Mathlib.Omega.{arith}
use lib.ListN.{length, take, drop, length-append, take-append-drop}
use lib.Seq.{slice, take-append_seam, drop-append_seam, length-take-le, length-slice}
use Rattle.book.proofs.Tests.{cut_eq}
use Rattle.sets.proofs.Slices.{slice_cut}

pub take_first : (u v w t : List ℕ) → t ≡ u ++ (v ++ w) → take (length u) t ≡ u
take_first u v w t e = ap (take (length u)) e ∙ take-append_seam u (v ++ w)

pub drop_third : (u v w t : List ℕ) → t ≡ u ++ (v ++ w) → drop (length (u ++ v)) t ≡ w
drop_third u v w t e = ap (drop (length (u ++ v))) (e ∙ sym (append_assoc u v w)) ∙ drop-append_seam (u ++ v) w

pub slice_second : (u v w t : List ℕ) → t ≡ u ++ (v ++ w) → slice (length u) (length (u ++ v)) t ≡ v
slice_second u v w t e = ap (drop (length u)) (ap (take (length (u ++ v))) (e ∙ sym (append_assoc u v w)) ∙ take-append_seam (u ++ v) w) ∙ drop-append_seam u v

pub end_within : (u v w t : List ℕ) → t ≡ u ++ (v ++ w) → length (u ++ v) ≤ length t
end_within u v w t e = let a = ap length (e ∙ sym (append_assoc u v w)) in let h = length-append (u ++ v) w in omega arith

pub parts : (t : List ℕ) (i j : ℕ) → i ≤ j → t ≡ take i t ++ (slice i j t ++ drop j t)
parts t i j h = sym (ap (λ (x : List ℕ). take i t ++ x) (sym (cut_eq (slice_cut t i j h))) ∙ take-append-drop i t)

pub end_at : (t : List ℕ) (i j : ℕ) → i ≤ j → j ≤ length t → length (take i t ++ slice i j t) ≡ j
end_at t i j h k =
    let g : i ≤ length t = omega arith in
    let a = length-append (take i t) (slice i j t) in
    let l = length-take-le i t g in
    let m = length-slice i j t k in
    omega arith

-- a context whose v is empty ends where it starts
pub empty_end : (u v : List ℕ) → v ≡ [] → length (u ++ v) ≡ length u
empty_end u v e = let a = length-append u v in let l = ap length e in omega arith

pub end_empty : (u v : List ℕ) → length (u ++ v) ≡ length u → v ≡ []
end_empty u [] e = refl
end_empty u (x ∷ v) e = let a = length-append u (x ∷ v) in absurd (omega arith)
