-- The loop over the lanes, over plain lists: what is done and what is left, for any lane function f that keeps the room. Assumes nothing.
use Prim.Native.Nat.{ℕ, ◌+◌, ◌≤◌, ◌<◌}
use mathlib.Core.Path.{◌≡◌, refl, sym, ◌∙◌, ap, subst}
use mathlib.Core.List.{List, [], ◌∷◌, ◌++◌, append_assoc, append-nil}
use native.Mathlib.Numerals.{add-one}
use native.Mathlib.Omega.{arith}
use lib.ListN.{length, get_or, set, take, drop, drop_of_length-le}
use lib.Seq.{drop-cons, take-suc-set, drop-set-lt, take_all}
use Rattle.heat.specs.declared.Lane.{Lane}
use Rattle.heat.specs.Lanes.{Leaving, AfterLane, AfterLanes, lanes_leave, in_turn}
use Rattle.heat.proofs.Room.{Roomy}

-- the first i lanes as they are, and the rest in turn
abbrev pub from_here : (Lane → Leaving → AfterLane) → ℕ → List Lane → Leaving → AfterLanes
from_here f i ys s = lanes_leave (take i ys ++ (in_turn f (drop i ys) s).lanes) (in_turn f (drop i ys) s).left

-- the invariant: what stands before the i-th lane
pub record Here (f : Lane → Leaving → AfterLane) (xs : List Lane) (s₀ : Leaving) (i : ℕ) (ys : List Lane) (s : Leaving) : Type 0 where
  pub roomy : Roomy s
  pub whole' : from_here f i ys s ≡ in_turn f xs s₀

module _ (f : Lane → Leaving → AfterLane) (keeps : (l : Lane) (s : Leaving) → Roomy s → Roomy (f l s).left) (xs : List Lane) (s₀ : Leaving) where
  pub here_start : s₀.used ≡ 0 → Here f xs s₀ 0 xs s₀
  here_start z = record { roomy = record { in_out = omega arith; in_origins = omega arith }; whole' = refl }

  -- one lane done: it is now d
  pub here_next : (i : ℕ) (ys : List Lane) (s : Leaving) → Here f xs s₀ i ys s → i < length ys → (none : Lane) (d : AfterLane) → d ≡ f (get_or ys i none) s
      → Here f xs s₀ (i + 1) (set ys i d.lane) d.left
  unfolding in_turn
  here_next i ys s x less none d e =
      let rest = in_turn f (drop (i + 1) ys) d.left in
      let took : take (i + 1) (set ys i d.lane) ≡ take i ys ++ (d.lane ∷ []) = rw add-one (take-suc-set ys i d.lane less) in
      let left : drop (i + 1) (set ys i d.lane) ≡ drop (i + 1) ys = drop-set-lt (i + 1) ys i d.lane (omega arith) in
      let here : drop i ys ≡ get_or ys i none ∷ drop (i + 1) ys = rw add-one (drop-cons ys i none less) in
      record {
        roomy = subst (λ (z : AfterLane). Roomy z.left) (sym e) (keeps (get_or ys i none) s x.roomy);
        whole' =
            (λ j. lanes_leave (took j ++ (in_turn f (left j) d.left).lanes) (in_turn f (left j) d.left).left)
            ∙ ap (λ (l : List Lane). lanes_leave l rest.left) (append_assoc (take i ys) (d.lane ∷ []) rest.lanes)
            ∙ ap (λ (z : AfterLane). lanes_leave (take i ys ++ (z.lane ∷ (in_turn f (drop (i + 1) ys) z.left).lanes)) (in_turn f (drop (i + 1) ys) z.left).left) e
            ∙ ap (λ (l : List Lane). lanes_leave (take i ys ++ (in_turn f l s).lanes) (in_turn f l s).left) (sym here)
            ∙ x.whole';
      }

  pub here_end : (i : ℕ) (ys : List Lane) (s : Leaving) → Here f xs s₀ i ys s → length ys ≤ i → lanes_leave ys s ≡ in_turn f xs s₀
  unfolding in_turn
  here_end i ys s x h =
      let all = sym (take_all i ys h) in
      let over = sym (drop_of_length-le ys {i = i} h) in
      ap (λ (l : List Lane). lanes_leave l s) (sym (append-nil ys))
      ∙ (λ j. lanes_leave (all j ++ (in_turn f (over j) s).lanes) (in_turn f (over j) s).left)
      ∙ x.whole'
