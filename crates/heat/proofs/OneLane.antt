-- One lane of a heat that replies 0, with the lanes pre before it and the lanes post after it: its record stands among the others, its output right
-- after theirs, and both stay to the end. Assumes nothing.
use Prim.Native.Nat.{ℕ, ◌+◌, ◌≤◌}
use mathlib.Core.Path.{◌≡◌, refl, sym, ap, ◌∙◌}
use mathlib.Core.List.{List, [], ◌∷◌, ◌++◌}
use native.Mathlib.Omega.{arith}
use lib.ListN.{length, take, drop, get_or, length-append, length-take}
use lib.Seq.{take_at, drop_at, take-add, length-take-le}
use borrow.Author.Tests.{le-ltb}
use Rattle.sets.specs.Workspace.{build_def}
use Rattle.sets.proofs.Tables.{build_place}
use Rattle.heat.specs.declared.Lane.{Lane}
use Rattle.heat.specs.Lanes.{Leaving, leaving, AfterLane, lane_def, AfterLanes, lanes_leave, in_turn}
use Rattle.heat.specs.Heats.{most_lanes, heated, AfterHeat, after_lanes, heat_def}
use Rattle.heat.specs.Apart.{no_lane, used}
use Rattle.heat.proofs.Places.{LaneKeeps, lane_keeps, LanesKeep, lanes_keep}
use Rattle.heat.proofs.Change.{turn_append}

-- a part of a list, and where a front of the list is that of another
part_front : (u n : ℕ) (x : List ℕ) → u ≤ length x → take n (drop u x) ≡ drop u (take (u + n) x)
part_front u n x h = sym (ap (drop u) (take-add u n x) ∙ drop_at (take u x) (take n (drop u x)) u (length-take u x ∙ omega arith))

part_kept : (u n : ℕ) (x a b c : List ℕ) → take (u + n) x ≡ take (u + n) (a ++ (b ++ c)) → u ≤ length x → length a ≡ u → length b ≡ n → take n (drop u x) ≡ b
part_kept u n x a b c e h p q =
    part_front u n x h ∙ ap (drop u) e
    ∙ sym (part_front u n (a ++ (b ++ c)) (let k = length-append a (b ++ c) in omega arith))
    ∙ ap (take n) (drop_at a (b ++ c) u p) ∙ take_at b c n q

-- the record behind those before it
get_or_mid : (pre : List Lane) (l : Lane) (ls : List Lane) → get_or (pre ++ (l ∷ ls)) (length pre) no_lane ≡ l
get_or_mid [] l ls = refl
get_or_mid (p ∷ pre) l ls = get_or_mid pre l ls

module _ (book tapes R S X O G : List ℕ) where
  -- a lane, by the workspace that BUILD left
  abbrev pub lane_of : Lane → Leaving → AfterLane
  lane_of = lane_def book tapes (build_def book R S).rows (build_def book R S).sets

  -- what the lanes pre leave to the next
  abbrev turns : List Lane → AfterLanes
  turns pre = in_turn lane_of pre (leaving 0 X O G)

  abbrev pub after : List Lane → Leaving
  after pre = (turns pre).left

  module _ (pre post : List Lane) (l : Lane) (few : length (pre ++ (l ∷ post)) ≤ most_lanes) (z : (build_def book R S).answer.reply ≡ 0) where
    abbrev pub heat : AfterHeat
    heat = heat_def book tapes (pre ++ (l ∷ post)) R S X O G

    abbrev pub mine : AfterLane
    mine = lane_of l (after pre)

    abbrev rest : AfterLanes
    rest = in_turn lane_of post mine.left

    pub kept : LanesKeep book tapes (build_def book R S).rows (build_def book R S).sets (leaving 0 X O G) (length pre) (turns pre)
    kept = lanes_keep book tapes (build_def book R S).rows (build_def book R S).sets pre (leaving 0 X O G)
        (record { in_out = omega arith; in_origins = omega arith })

    kept_mine : LaneKeeps book tapes (build_def book R S).rows (build_def book R S).sets (after pre) mine
    kept_mine = lane_keeps book tapes (build_def book R S).rows (build_def book R S).sets l (after pre) kept.roomy

    kept_rest : LanesKeep book tapes (build_def book R S).rows (build_def book R S).sets mine.left (length post) rest
    kept_rest = lanes_keep book tapes (build_def book R S).rows (build_def book R S).sets post mine.left kept_mine.roomy

    pub is : heat ≡ after_lanes (heated 0 0) (build_def book R S) (lanes_leave ((turns pre).lanes ++ (mine.lane ∷ rest.lanes)) rest.left)
    unfolding heat_def in_turn
    is =
        simp (le-ltb _ _ few, z, build_place book R S z)
        (ap (after_lanes (heated 0 0) (build_def book R S)) (turn_append lane_of pre (l ∷ post) (leaving 0 X O G)))

    pub the_record : get_or heat.lanes (length pre) no_lane ≡ mine.lane
    the_record =
        ap (λ (h : AfterHeat). get_or h.lanes (length pre) no_lane) is
        ∙ ap (λ (n : ℕ). get_or ((turns pre).lanes ++ (mine.lane ∷ rest.lanes)) n no_lane) (sym kept.many)
        ∙ get_or_mid (turns pre).lanes mine.lane rest.lanes

    pub the_first : take (length pre) heat.lanes ≡ (turns pre).lanes
    the_first =
        ap (λ (h : AfterHeat). take (length pre) h.lanes) is ∙ take_at (turns pre).lanes (mine.lane ∷ rest.lanes) (length pre) kept.many

    pub the_place : (after pre).used ≡ used (take (length pre) heat.lanes)
    the_place =
        let e : 0 + used (turns pre).lanes ≡ used (turns pre).lanes = omega arith in kept.room ∙ e ∙ ap used (sym the_first)

    -- what a lane wrote into the symbols or the origins stands there in the end
    module _ (of : Leaving → List ℕ) (w : List ℕ) (many : mine.lane.out ≤ length w)
        (in_first : (after pre).used ≤ length (of (after pre))) (mine-same : length (of mine.left) ≡ length (of (after pre)))
        (rest-same : length (of rest.left) ≡ length (of mine.left))
        (front : take mine.left.used (of rest.left) ≡ take mine.left.used (of mine.left))
        (writes : of mine.left ≡ take (after pre).used (of (after pre)) ++
        (take mine.lane.out w ++ drop ((after pre).used + mine.lane.out) (of (after pre)))) where
      pub stays : take mine.lane.out (drop (after pre).used (of rest.left)) ≡ take mine.lane.out w
      stays =
          part_kept (after pre).used mine.lane.out (of rest.left) (take (after pre).used (of (after pre))) (take mine.lane.out w)
          (drop ((after pre).used + mine.lane.out) (of (after pre)))
          (ap (λ (k : ℕ). take k (of rest.left)) (sym kept_mine.room) ∙ front ∙ ap (λ (k : ℕ). take k (of mine.left)) kept_mine.room
          ∙ ap (take ((after pre).used + mine.lane.out)) writes)
          (omega (arith, rest-same, mine-same, in_first)) (length-take-le (after pre).used (of (after pre)) in_first)
          (length-take-le mine.lane.out w many)

    module _ (w : List ℕ) (many : mine.lane.out ≤ length w) where
      pub symbols_stay : mine.left.out ≡ take (after pre).used (after pre).out ++
          (take mine.lane.out w ++ drop ((after pre).used + mine.lane.out) (after pre).out)
          → take mine.lane.out (drop (after pre).used heat.out) ≡ take mine.lane.out w
      symbols_stay writes =
          ap (λ (h : AfterHeat). take mine.lane.out (drop (after pre).used h.out)) is
          ∙ stays (λ s. s.out) w many kept.roomy.in_out kept_mine.out kept_rest.out kept_rest.front writes

      pub origins_stay : mine.left.origins ≡ take (after pre).used (after pre).origins ++
          (take mine.lane.out w ++ drop ((after pre).used + mine.lane.out) (after pre).origins)
          → take mine.lane.out (drop (after pre).used heat.origins) ≡ take mine.lane.out w
      origins_stay writes =
          ap (λ (h : AfterHeat). take mine.lane.out (drop (after pre).used h.origins)) is
          ∙ stays (λ s. s.origins) w many kept.roomy.in_origins kept_mine.origins kept_rest.origins kept_rest.front_origins writes
