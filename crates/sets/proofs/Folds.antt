-- The laws of a set's step as a fold over the arcs. Assumes nothing.
use mathlib.Core.Path.{◌≡◌, refl, sym, ap, ap₂, ◌∙◌}
use Prim.Native.Nat.{ℕ, ◌^◌}
use mathlib.Core.Bool.{Bool, true, false, cond, ◌&&◌, ◌||◌}
use mathlib.Core.List.{List, [], ◌∷◌, ◌++◌}
use lib.Dec.{eqb, leb}
use lib.Bits.{bit_or, or_zero_r}
use Rattle.book.specs.Reading.{Arc}
use Rattle.book.specs.Language.{any}
use Rattle.book.specs.StateSets.{member}
use Rattle.book.proofs.Bits.{member_none, member_or, ext, or_assoc}
use Rattle.book.proofs.Masking.{member_cond}
use Rattle.sets.specs.Stepping.{leaves, step_fold, hop_fold}

module _ (c : ℕ) where
  -- what the step means: no bound on t, and none on the arcs
  pub member_step : (arcs : List Arc) (x t : ℕ) → member (step_fold arcs x c) t ≡ any (λ a. leaves x c a && eqb t a.to) arcs
  unfolding step_fold hop_fold
  member_step [] x t = member_none t
  member_step (a ∷ rest) x t =
      member_or (cond (leaves x c a) (2 ^ a.to) 0) (step_fold rest x c) t
      ∙ ap₂ (λ (p q : Bool). p || q) (member_cond (leaves x c a) a.to t) (member_step rest x t)

  swap : (p q r s : Bool) → ((p || q) || (r || s)) ≡ ((p || r) || (q || s))
  swap true q r s = refl
  swap false true true s = refl
  swap false true false s = refl
  swap false false r s = refl

  split : (m n r e : Bool) → ((m || n) && r && e) ≡ (m && r && e || n && r && e)
  split true true true true = refl
  split true true true false = refl
  split true true false e = refl
  split true false true true = refl
  split true false true false = refl
  split true false false e = refl
  split false n r e = refl

  any_or : (arcs : List Arc) (x y t : ℕ)
      → any (λ a. leaves (bit_or x y) c a && eqb t a.to) arcs
      ≡ (any (λ a. leaves x c a && eqb t a.to) arcs || any (λ a. leaves y c a && eqb t a.to) arcs)
  any_or [] x y t = refl
  any_or (a ∷ rest) x y t =
      ap₂ (λ (p q : Bool). p || q)
      (ap (λ (m : Bool). m && (leb a.low c && leb c a.high) && eqb t a.to) (member_or x y a.from)
      ∙ split (member x a.from) (member y a.from) (leb a.low c && leb c a.high) (eqb t a.to))
      (any_or rest x y t)
      ∙ swap (leaves x c a && eqb t a.to) (leaves y c a && eqb t a.to)
      (any (λ a. leaves x c a && eqb t a.to) rest) (any (λ a. leaves y c a && eqb t a.to) rest)

  pub step_or : (arcs : List Arc) (x y : ℕ) → step_fold arcs (bit_or x y) c ≡ bit_or (step_fold arcs x c) (step_fold arcs y c)
  step_or arcs x y =
      ext _ _ (λ t. member_step arcs (bit_or x y) t ∙ any_or arcs x y t
      ∙ sym (member_or (step_fold arcs x c) (step_fold arcs y c) t ∙ ap₂ (λ (p q : Bool). p || q) (member_step arcs x t) (member_step arcs y t)))

  pub step_none : (arcs : List Arc) → step_fold arcs 0 c ≡ 0
  unfolding step_fold hop_fold
  step_none [] = refl
  step_none (a ∷ rest) =
      ap₂ (λ (m : Bool) (r : ℕ). bit_or (cond (m && (leb a.low c && leb c a.high)) (2 ^ a.to) 0) r) (member_none a.from) (step_none rest)

-- one arc more
pub step_snoc : (arcs : List Arc) (arc : Arc) (x a : ℕ) → step_fold (arcs ++ (arc ∷ [])) x a ≡ bit_or (step_fold arcs x a) (hop_fold arc x a)
unfolding step_fold
step_snoc [] arc x a = or_zero_r (hop_fold arc x a)
step_snoc (y ∷ arcs) arc x a = ap (bit_or (hop_fold y x a)) (step_snoc arcs arc x a) ∙ sym (or_assoc (hop_fold y x a) (step_fold arcs x a) (hop_fold arc x a))

-- where nothing is left, what is out is the whole
pub step_end : (arcs : List Arc) (left out c T : ℕ) → left ≡ 0 → bit_or out (step_fold arcs left c) ≡ T → out ≡ T
step_end arcs left out c T e inv = sym (ap (λ (x : ℕ). bit_or out (step_fold arcs x c)) e ∙ ap (bit_or out) (step_none c arcs) ∙ or_zero_r out) ∙ inv
