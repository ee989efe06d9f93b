-- Cuts of a tape at positions: the front, a stretch, the rest. Assumes nothing.
use Prim.Native.Nat.{ℕ, zero, suc, ◌+◌, ◌≤◌, ◌<◌}
use mathlib.Core.List.{List, [], ◌∷◌, ◌++◌}
use mathlib.Core.Path.{◌≡◌, refl, subst, ap, ◌∙◌}
use native.Mathlib.Omega.{arith}
use native.Mathlib.Nat.{not-suc-le-zero, le_of_suc-le-suc, suc-add, zero-add}
use lib.ListN.{length, get_or, take, drop, length-append}
use lib.Seq.{slice, take-take, take-suc, take-nil, drop-append-le, length-take-le}
use Rattle.book.proofs.Tests.{Cut, nil, cons, cut_eq}

-- the front and the rest
pub take_cut : (j : ℕ) (t : List ℕ) → Cut (take j t) (drop j t) t
take_cut zero t = nil
take_cut (suc j) [] = nil
take_cut (suc j) (a ∷ t) = cons (take_cut j t)

-- from i: a stretch to j, then the rest
pub slice_cut : (t : List ℕ) (i j : ℕ) → i ≤ j → Cut (slice i j t) (drop j t) (drop i t)
slice_cut t zero j h = take_cut j t
slice_cut t (suc i) zero h = absurd (not-suc-le-zero h)
slice_cut [] (suc i) (suc j) h = nil
slice_cut (a ∷ t) (suc i) (suc j) h = slice_cut t i j (le_of_suc-le-suc h)

-- a stretch to k: a stretch to j, then one from j
pub slice_join : (t : List ℕ) (i j k : ℕ) → i ≤ j → j ≤ k → Cut (slice i j t) (slice j k t) (slice i k t)
slice_join t i j k h g = subst (λ (x : List ℕ). Cut (drop i x) (slice j k t) (slice i k t)) (take-take j k t g) (slice_cut (take k t) i j h)

-- a cut is a position
pub cut_front : {u v w : List ℕ} → Cut u v w → u ≡ take (length u) w
cut_front nil = refl
cut_front (cons {a = a} c) = ap (λ (x : List ℕ). a ∷ x) (cut_front c)

pub cut_rest : {u v w : List ℕ} → Cut u v w → v ≡ drop (length u) w
cut_rest nil = refl
cut_rest (cons c) = cut_rest c

pub cut_length : {u v w : List ℕ} → Cut u v w → length w ≡ length u + length v
cut_length {u} {v} c = ap length (cut_eq c) ∙ length-append u v

pub slice_take : (t : List ℕ) (j n : ℕ) → slice j (j + n) t ≡ take n (drop j t)
slice_take t zero n = rw zero-add
slice_take [] (suc j) n = rw (suc-add, take-nil)
slice_take (a ∷ t) (suc j) n = rw suc-add (slice_take t j n)

pub slice_snoc : (t : List ℕ) (i j : ℕ) → i ≤ j → j < length t → slice i (suc j) t ≡ slice i j t ++ (get_or t j 0 ∷ [])
slice_snoc t i j h k =
    let g : j ≤ length t = omega arith in
    ap (drop i) (take-suc t j 0 k) ∙ drop-append-le i (take j t) (get_or t j 0 ∷ []) (rw (length-take-le j t g) h)
