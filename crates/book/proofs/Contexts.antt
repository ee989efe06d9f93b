-- The tests of a left and of a right context are the paper's u ∈ Σ*λ and w ∈ ρΣ*. Assumes nothing.
use Prim.Native.Nat.{ℕ}
use mathlib.Core.List.{List, ◌++◌}
use mathlib.Core.Bool.{Bool}
use mathlib.Core.Path.{◌≡◌, subst, sym}
use mathlib.Core.Logic.{◌↔◌}
use lib.Dec.{T}
use Rattle.book.specs.Language.{some_end, some_front}
use Rattle.book.proofs.Tests.{cut_of, cut_eq, end_in_lem, end_out, front_in, front_out}

pub some_end_lem : (f : List ℕ → Bool) (u : List ℕ) → T (some_end f u) ↔ ((x y : List ℕ) × (u ≡ x ++ y) × T (f y))
some_end_lem f u = (
  λ h. let z = end_out f u h in (z.0, z.1, cut_eq z.2, z.3),
  λ z. subst (λ (w : List ℕ). T (some_end f w)) (sym z.2) (end_in_lem f (cut_of z.0 z.1) z.3),
)

pub some_front_lem : (f : List ℕ → Bool) (w : List ℕ) → T (some_front f w) ↔ ((x y : List ℕ) × (w ≡ x ++ y) × T (f x))
some_front_lem f w = (
  λ h. let z = front_out f w h in (z.0, z.1, cut_eq z.2, z.3),
  λ z. subst (λ (w : List ℕ). T (some_front f w)) (sym z.2) (front_in f (cut_of z.0 z.1) z.3),
)
