-- Laws of pad: a list with zeros after it. Assumes nothing.
use Prim.Native.Nat.{ℕ, zero, suc, ◌+◌, ◌-◌, ◌≤◌, ◌<◌}
use mathlib.Core.Path.{◌≡◌, refl, sym, ap, ◌∙◌}
use mathlib.Core.List.{List, [], ◌∷◌, ◌++◌, append_assoc}
use native.Mathlib.Omega.{arith}
use native.Mathlib.Nat.{sub-zero}
use lib.ListN.{length, get_or, take, set, replicate, length-append, length-replicate, get_or-append}
use lib.Seq.{take_at, set_at}
use Rattle.book.specs.Format.{pad}

-- a list of zeros
pub zeros : (n k : ℕ) → ◌≡◌ {A = ℕ} (get_or (replicate n 0) k 0) 0
zeros zero k = refl
zeros (suc n) zero = refl
zeros (suc n) (suc k) = zeros n k

pub length_pad : (N : ℕ) (l : List ℕ) → length l ≤ N → length (pad N l) ≡ N
unfolding pad
length_pad N l h = simp (length-append, length-replicate) (omega arith)

pub take_pad : (N : ℕ) (l : List ℕ) (n : ℕ) → n ≡ length l → take n (pad N l) ≡ l
unfolding pad
take_pad N l n e = take_at l _ n (sym e)

pub get_or_pad : (N : ℕ) (l : List ℕ) (i : ℕ) → i < length l → get_or (pad N l) i 0 ≡ get_or l i 0
unfolding pad
get_or_pad N l i h = get_or-append l _ 0 i h

pub pad_nil : (N : ℕ) → pad N [] ≡ replicate N 0
unfolding pad
pad_nil N = ap (λ (k : ℕ). replicate k 0) (sub-zero N)

-- a store right after the list
pub set_pad : (N : ℕ) (l : List ℕ) (n v : ℕ) → n ≡ length l → n < N → set (pad N l) n v ≡ pad N (l ++ (v ∷ []))
unfolding pad
set_pad N l n v e h =
    let le : length (l ++ (v ∷ [])) ≡ length l + 1 = length-append l (v ∷ []) in
    let q : N - length l ≡ suc (N - length (l ++ (v ∷ []))) = omega arith in
    ap (λ (k : ℕ). set (l ++ replicate k 0) n v) q
    ∙ set_at l 0 (replicate (N - length (l ++ (v ∷ []))) 0) v n (sym e)
    ∙ sym (append_assoc l (v ∷ []) _)

-- the zeros are what get_or gives past the end anyway
get_d_tail : (l : List ℕ) (n i : ℕ) → get_or (l ++ replicate n 0) i 0 ≡ get_or l i 0
get_d_tail [] n i = zeros n i
get_d_tail (x ∷ l) n zero = refl
get_d_tail (x ∷ l) n (suc i) = get_d_tail l n i

pub get_or_pad_all : (N : ℕ) (l : List ℕ) (i : ℕ) → get_or (pad N l) i 0 ≡ get_or l i 0
unfolding pad
get_or_pad_all N l i = get_d_tail l (N - length l) i
