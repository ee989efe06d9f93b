-- An arc read in either direction, from the state at its byte p to the state at its byte q. Assumes nothing.
use Prim.Native.Nat.{ℕ, ◌+◌, ◌<◌}
use mathlib.Core.Path.{◌≡◌, refl, ap, sym, ◌∙◌}
use mathlib.Core.Bool.{Bool, true, false, cond, ◌||◌}
use mathlib.Core.List.{List, [], ◌∷◌, ◌++◌, map, map-append}
use native.Mathlib.Omega.{arith}
use lib.Dec.{eqb}
use lib.Bits.{bit_or}
use borrow.Author.Tests.{eqb-true}
use Rattle.book.specs.Format.{from_at, low_at, high_at, to_at, arc_size, byte}
use Rattle.book.specs.Reading.{Arc, arc_at}
use Rattle.sets.specs.Stepping.{hop_fold, step_fold, is_end, end_of, turned, step_arcs, arc_bytes}
use Rattle.sets.proofs.Folds.{step_snoc}

-- what holds of both its states holds of each end
pub end_is : (P : ℕ → Type 0) (p : ℕ) (x : Arc) → P x.from → P x.to → P (end_of p x)
end_is P p x f t = go (eqb p from_at)
  where
    go : (b : Bool) → P (cond b x.from x.to)
    go true = f
    go false = t

-- the ends stand at their bytes
pub end_byte : (p : ℕ) (s : List ℕ) (at : ℕ) → is_end p ≡ true → end_of p (arc_at s at) ≡ byte s (at + p)
unfolding is_end
end_byte p s at e = go (eqb p from_at) refl e
  where
    go : (b : Bool) → eqb p from_at ≡ b → (b || eqb p to_at) ≡ true → cond b (byte s (at + from_at)) (byte s (at + to_at)) ≡ byte s (at + p)
    go true k h = ap (λ (j : ℕ). byte s (at + j)) (sym (eqb-true p from_at k))
    go false k h = ap (λ (j : ℕ). byte s (at + j)) (sym (eqb-true p to_at h))

pub end_small : (p : ℕ) → is_end p ≡ true → p < arc_size
unfolding is_end
end_small p e = go (eqb p from_at) refl e
  where
    go : (b : Bool) → eqb p from_at ≡ b → (b || eqb p to_at) ≡ true → p < arc_size
    go true k h = omega (arith, eqb-true p from_at k)
    go false k h = omega (arith, eqb-true p to_at h)

pub turned_bytes : (p q : ℕ) (s : List ℕ) (at : ℕ) → is_end p ≡ true → is_end q ≡ true → turned p q (arc_at s at) ≡ arc_bytes p q s at
unfolding turned
turned_bytes p q s at e f = λ i. record { from = end_byte p s at e i; low = byte s (at + low_at); high = byte s (at + high_at); to = end_byte q s at f i }

-- one arc more
pub turned_snoc : (p q : ℕ) (arcs : List Arc) (x : Arc) (set a : ℕ)
    → step_arcs p q (arcs ++ (x ∷ [])) set a ≡ bit_or (step_arcs p q arcs set a) (hop_fold (turned p q x) set a)
unfolding step_arcs
turned_snoc p q arcs x set a =
    ap (λ (l : List Arc). step_fold l set a) (map-append (turned p q) arcs (x ∷ []))
    ∙ step_snoc (map (turned p q) arcs) (turned p q x) set a

-- an arc read forwards is itself
pub forward : (x : Arc) → turned from_at to_at x ≡ x
unfolding turned
forward x = refl
