-- The lanes of a heat get what they would get alone: "The result, origins too, is what the lanes alone would give, one after another, each with the
-- room still left; scratch ends likewise, the workspace as BUILD leaves it, even if no lane is accepted." And the whole call's refusals, and the
-- empty list. Assumes nothing.
use Prim.Native.Nat.{ℕ, ◌+◌, ◌≤◌, ◌<◌}
use mathlib.Core.Path.{◌≡◌, refl, ap, ◌∙◌}
use mathlib.Core.Bool.{Bool, true, false, cond}
use mathlib.Core.List.{List, [], ◌∷◌}
use native.Mathlib.Omega.{arith}
use lib.Dec.{ltb, eqb}
use lib.ListN.{length, drop}
use borrow.Author.Tests.{ne_eqb, lt-ltb, le-ltb}
use Rattle.sets.specs.Workspace.{AfterBuild, build_def}
use Rattle.sets.specs.Tables.{Buildable}
use Rattle.sets.proofs.Tables.{buildable, build_place, buildable_again}
use Rattle.rewriter.specs.Replies.{AfterRewrite, rewrite_def}
use Rattle.rewriter.proofs.Callers.{rewrite_rows, rewrite_sets}
use Rattle.rewriter.proofs.Standing.{Seen, rewrite_anywhere}
use Rattle.heat.specs.declared.Lane.{Lane}
use Rattle.heat.specs.Lanes.{tape_of, Leaving, leaving, AfterLane, outside, inside, lane_def, lanes_leave, in_turn}
use Rattle.heat.specs.Heats.{most_lanes, heated, heat_leaves, after_lanes, heat_def}
use Rattle.heat.specs.Calls.{called, call_def, then, by_calls}

-- ---- one lane, over two workspaces that are long enough
module _ (book tapes : List ℕ) (l : Lane) (s : Leaving) where
  abbrev in_seen : Seen → AfterLane
  in_seen r = inside l s (record { answer = r.answer; rows = []; sets = []; scratch = r.scratch; out = r.out; origins = r.origins })

  pub lane_anywhere : (R S R' S' : List ℕ) → Buildable book R S → Buildable book R' S' → lane_def book tapes R S l s ≡ (call_def book tapes R' S' l s).done
  unfolding lane_def call_def
  lane_anywhere R S R' S' o o' = by (ltb (length tapes) (l.start + l.length))
    where
      r : List ℕ → List ℕ → AfterRewrite
      r A B = rewrite_def book (tape_of tapes l) A B s.scratch (drop s.used s.out) (drop s.used s.origins)

      by : (c : Bool) → cond c (outside l s) (inside l s (r R S)) ≡ (cond c (record { done = outside l s; rows = R'; sets = S' }) (called l s (r R' S'))).done
      by true = refl
      by false = ap in_seen (rewrite_anywhere book (tape_of tapes l) R S R' S' s.scratch (drop s.used s.out) (drop s.used s.origins) o o')

  -- the workspace stays long enough
  call_room : (R S : List ℕ) → Buildable book R S → Buildable book (call_def book tapes R S l s).rows (call_def book tapes R S l s).sets
  unfolding call_def
  call_room R S o = by (ltb (length tapes) (l.start + l.length))
    where
      r : AfterRewrite
      r = rewrite_def book (tape_of tapes l) R S s.scratch (drop s.used s.out) (drop s.used s.origins)

      by : (c : Bool) → Buildable book (cond c (record { done = outside l s; rows = R; sets = S }) (called l s r)).rows
          (cond c (record { done = outside l s; rows = R; sets = S }) (called l s r)).sets
      by true = o
      by false = record {
        accepted = o.accepted;
        rows = omega (arith, o.rows, rewrite_rows book (tape_of tapes l) R S s.scratch (drop s.used s.out) (drop s.used s.origins));
        sets = omega (arith, o.sets, rewrite_sets book (tape_of tapes l) R S s.scratch (drop s.used s.out) (drop s.used s.origins));
      }

-- all lanes: one workspace for all of them, or calls one after another
pub lanes_alone : (book tapes : List ℕ) (ls : List Lane) (R S R' S' : List ℕ) (s : Leaving) → Buildable book R S → Buildable book R' S'
    → in_turn (lane_def book tapes R S) ls s ≡ by_calls book tapes ls R' S' s
unfolding in_turn by_calls
lanes_alone book tapes [] R S R' S' s o o' = refl
lanes_alone book tapes (l ∷ ls) R S R' S' s o o' =
    let c = call_def book tapes R' S' l s in
    let e : lane_def book tapes R S l s ≡ c.done = lane_anywhere book tapes l s R S R' S' o o' in
    ap (λ (d : AfterLane). lanes_leave (d.lane ∷ (in_turn (lane_def book tapes R S) ls d.left).lanes) (in_turn (lane_def book tapes R S) ls d.left).left) e
    ∙ ap (then c) (lanes_alone book tapes ls R S c.rows c.sets c.done.left o (call_room book tapes l s R' S' o'))

-- ---- the whole call
module _ (book tapes : List ℕ) (ls : List Lane) (R S X O G : List ℕ) where
  -- "16 for more than ten lanes, first, nothing written"
  pub heat_many : most_lanes < length ls → heat_def book tapes ls R S X O G ≡ heat_leaves (heated 16 0) ls R S X O G
  unfolding heat_def
  heat_many h = simp (lt-ltb _ _ h)

  module _ (few : length ls ≤ most_lanes) where
    -- "then 1 to 8, 11, 13, 14 for the whole call, lane records unchanged"
    pub heat_refused : ((build_def book R S).answer.reply ≡ 0 → ⊥)
        → heat_def book tapes ls R S X O G ≡ heat_leaves (heated (build_def book R S).answer.reply (build_def book R S).answer.place) ls
        (build_def book R S).rows (build_def book R S).sets X O G
    unfolding heat_def
    heat_refused h = simp (le-ltb _ _ few, ne_eqb _ _ h)

    -- "the call then replies 0": the lanes are what REWRITE gives, one call after another, over the workspace and buffers that the heat was lent
    pub heat_alone : (build_def book R S).answer.reply ≡ 0 → heat_def book tapes ls R S X O G ≡ after_lanes (heated 0 0) (build_def book R S)
        (by_calls book tapes ls R S (leaving 0 X O G))
    unfolding heat_def
    heat_alone z =
        simp (le-ltb _ _ few, z, build_place book R S z)
        (ap (after_lanes (heated 0 0) (build_def book R S))
        (lanes_alone book tapes ls (build_def book R S).rows (build_def book R S).sets R S (leaving 0 X O G) (buildable_again book R S z)
        (buildable book R S z)))

-- "also for an empty list": the answer and the workspace are BUILD's, and nothing else is touched
pub heat_empty : (book tapes R S X O G : List ℕ)
    → heat_def book tapes [] R S X O G ≡ heat_leaves (heated (build_def book R S).answer.reply (build_def book R S).answer.place) [] (build_def book R S).rows
    (build_def book R S).sets X O G
unfolding heat_def in_turn
heat_empty book tapes R S X O G = by (eqb (build_def book R S).answer.reply 0)
  where
    b : AfterBuild
    b = build_def book R S

    by : (c : Bool) → after_lanes (heated b.answer.reply b.answer.place) b (cond c (lanes_leave [] (leaving 0 X O G)) (lanes_leave [] (leaving 0 X O G)))
        ≡ heat_leaves (heated b.answer.reply b.answer.place) [] b.rows b.sets X O G
    by true = refl
    by false = refl
