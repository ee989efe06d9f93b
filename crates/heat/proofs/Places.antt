-- Where the lanes stand: "Each lane's output goes into the common output right after that of the lane before, and a refused lane uses no room"; a
-- later lane leaves what stands before its place; every buffer keeps its length. Assumes nothing.
use Prim.Native.Nat.{ℕ, suc, ◌+◌, ◌≤◌}
use mathlib.Core.Path.{◌≡◌, refl, sym, ap, ◌∙◌}
use mathlib.Core.Bool.{Bool, true, false, cond}
use mathlib.Core.List.{List, [], ◌∷◌, ◌++◌}
use native.Mathlib.Omega.{arith}
use lib.Dec.{ltb}
use lib.ListN.{length, take, drop, length-take}
use lib.Seq.{take-take, take_at}
use Rattle.rewriter.specs.Replies.{AfterRewrite}
use Rattle.rewriter.proofs.Callers.{rewrite_scratch}
use Rattle.heat.specs.declared.Lane.{Lane}
use Rattle.heat.specs.Lanes.{tape_of, Leaving, AfterLane, outside, inside, lane_def, AfterLanes, in_turn}
use Rattle.heat.specs.Apart.{used}
use Rattle.heat.proofs.Room.{Roomy, alone, same_out, same_origins, fits_out, fits_origins}

module _ (book t R S : List ℕ) where
  abbrev f : Lane → Leaving → AfterLane
  f = lane_def book t R S

  -- what one lane leaves: the lengths, the room used, and what stands before its place
  pub record LaneKeeps (s : Leaving) (d : AfterLane) : Type 0 where
    pub roomy : Roomy d.left
    pub scratch : length d.left.scratch ≡ length s.scratch
    pub out : length d.left.out ≡ length s.out
    pub origins : length d.left.origins ≡ length s.origins
    pub room : d.left.used ≡ s.used + d.lane.out
    pub front : take s.used d.left.out ≡ take s.used s.out
    pub front_origins : take s.used d.left.origins ≡ take s.used s.origins

  take_front : (u : ℕ) (l y : List ℕ) → u ≤ length l → take u (take u l ++ y) ≡ take u l
  take_front u l y h = take_at (take u l) y u (length-take u l ∙ omega arith)

  pub lane_keeps : (l : Lane) (s : Leaving) → Roomy s → LaneKeeps s (f l s)
  unfolding lane_def
  lane_keeps l s r = by (ltb (length t) (l.start + l.length)) refl
    where
      a : AfterRewrite
      a = alone book t R S l s

      by : (c : Bool) → ltb (length t) (l.start + l.length) ≡ c → LaneKeeps s (cond c (outside l s) (inside l s a))
      by true e = record { roomy = r; scratch = refl; out = refl; origins = refl; room = omega arith; front = refl; front_origins = refl }
      by false e = record {
        roomy = record {
          in_out = omega (arith, same_out book t R S l s r.in_out, fits_out book t R S l s r.in_out);
          in_origins = omega (arith, same_origins book t R S l s r.in_origins, fits_origins book t R S l s r.in_origins);
        };
        scratch = rewrite_scratch book (tape_of t l) R S s.scratch (drop s.used s.out) (drop s.used s.origins);
        out = same_out book t R S l s r.in_out;
        origins = same_origins book t R S l s r.in_origins;
        room = refl;
        front = take_front s.used s.out a.out r.in_out;
        front_origins = take_front s.used s.origins a.origins r.in_origins;
      }

  pub lane_roomy : (l : Lane) (s : Leaving) → Roomy s → Roomy (f l s).left
  lane_roomy l s r = (lane_keeps l s r).roomy

  -- all lanes
  pub record LanesKeep (s : Leaving) (n : ℕ) (d : AfterLanes) : Type 0 where
    pub many : length d.lanes ≡ n
    pub roomy : Roomy d.left
    pub scratch : length d.left.scratch ≡ length s.scratch
    pub out : length d.left.out ≡ length s.out
    pub origins : length d.left.origins ≡ length s.origins
    pub room : d.left.used ≡ s.used + used d.lanes
    pub front : take s.used d.left.out ≡ take s.used s.out
    pub front_origins : take s.used d.left.origins ≡ take s.used s.origins

  -- a front that is kept twice
  front_twice : (u v : ℕ) (x y z : List ℕ) → u ≤ v → take v x ≡ take v y → take u y ≡ take u z → take u x ≡ take u z
  front_twice u v x y z h p q = sym (take-take u v x h) ∙ ap (take u) p ∙ take-take u v y h ∙ q

  pub lanes_keep : (ls : List Lane) (s : Leaving) → Roomy s → LanesKeep s (length ls) (in_turn f ls s)
  unfolding in_turn used
  lanes_keep [] s r = record { many = refl; roomy = r; scratch = refl; out = refl; origins = refl; room = omega arith; front = refl; front_origins = refl }
  lanes_keep (l ∷ ls) s r =
      let k = lane_keeps l s r in
      let m = lanes_keep ls (f l s).left k.roomy in
      record {
        many = ap suc m.many;
        roomy = m.roomy;
        scratch = m.scratch ∙ k.scratch;
        out = m.out ∙ k.out;
        origins = m.origins ∙ k.origins;
        room = omega (arith, m.room, k.room);
        front = front_twice s.used (f l s).left.used _ (f l s).left.out s.out (omega (arith, k.room)) m.front k.front;
        front_origins = front_twice s.used (f l s).left.used _ (f l s).left.origins s.origins (omega (arith, k.room)) m.front_origins
            k.front_origins;
      }
