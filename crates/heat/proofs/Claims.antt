-- The theorems about HEAT, on one page. No hypothesis on book, common buffer, lanes or buffers, but where one is named. (The contract determines the
-- result: One.antt.) R, S, X, O, G are rows, sets, scratch, output and origins before the call.
use Prim.Native.Nat.{ℕ, ◌≤◌, ◌<◌}
use mathlib.Core.Path.{◌≡◌, refl, sym, subst, ap, ap₂, ◌∙◌}
use mathlib.Core.Bool.{Bool, true, false, cond}
use mathlib.Core.List.{List, [], ◌∷◌, ◌++◌}
use native.Mathlib.Omega.{arith}
use lib.Dec.{ltb}
use lib.ListN.{length, take, drop, get_or}
use Rattle.book.specs.Language.{rules_in}
use Rattle.sets.specs.Workspace.{build_def}
use Rattle.stretches.specs.Output.{rewriting}
use Rattle.stretches.specs.Sentences.{NeverFalls}
use Rattle.stretches.proofs.Counts.{symbols_length, origins_length}
use Rattle.stretches.proofs.Rising.{falls_take, rewriting_rises}
use Rattle.sets.specs.Tables.{AsBuilt}
use Rattle.sets.proofs.Tables.{as_built}
use Rattle.heat.specs.declared.Lane.{Lane}
use Rattle.heat.specs.Lanes.{tape_of, Leaving, leaving, AfterLane, AfterLanes, in_turn}
use Rattle.heat.specs.Heats.{most_lanes, heated, AfterHeat, heat_leaves, after_lanes, heat_def}
use Rattle.heat.specs.Calls.{by_calls}
use Rattle.heat.specs.Apart.{no_lane, Elsewhere, Apart, AllApart, RoomFor, class, written_of, written_origins, used}
use Rattle.heat.proofs.OneLane.{lane_of, after}
use Rattle.heat.proofs.OneLane as One
use Rattle.heat.proofs.Change as Change
use Rattle.heat.proofs.Alone as Alone

-- 1. The whole call, in the order of the replies.
module _ (book tapes : List ℕ) (ls : List Lane) (R S X O G : List ℕ) where
  -- "16 for more than ten lanes, first, nothing written"
  pub many : most_lanes < length ls → heat_def book tapes ls R S X O G ≡ heat_leaves (heated 16 0) ls R S X O G
  many = Alone.heat_many book tapes ls R S X O G

  -- "then 1 to 8, 11, 13, 14 for the whole call, lane records unchanged"
  pub refused : length ls ≤ most_lanes → ((build_def book R S).answer.reply ≡ 0 → ⊥) → heat_def book tapes ls R S X O G
      ≡ heat_leaves (heated (build_def book R S).answer.reply (build_def book R S).answer.place) ls (build_def book R S).rows (build_def book R S).sets X O G
  refused = Alone.heat_refused book tapes ls R S X O G

  -- "The result, origins too, is what the lanes alone would give, one after another, each with the room still left; scratch ends likewise, the
  -- workspace as BUILD leaves it, even if no lane is accepted."
  pub as_alone : length ls ≤ most_lanes → (build_def book R S).answer.reply ≡ 0
      → heat_def book tapes ls R S X O G ≡ after_lanes (heated 0 0) (build_def book R S) (by_calls book tapes ls R S (leaving 0 X O G))
  as_alone = Alone.heat_alone book tapes ls R S X O G

-- "also for an empty list"
pub no_lane_lem : (book tapes R S X O G : List ℕ) → heat_def book tapes [] R S X O G
    ≡ heat_leaves (heated (build_def book R S).answer.reply (build_def book R S).answer.place) [] (build_def book R S).rows (build_def book R S).sets X O G
no_lane_lem = Alone.heat_empty

-- 2. One lane of a heat that replies 0, with the lanes pre before it and the lanes post after it; `after .. pre` is what those before it leave.
module _ (book tapes R S X O G : List ℕ) (pre post : List Lane) (l : Lane) (few : length (pre ++ (l ∷ post)) ≤ most_lanes)
    (z : (build_def book R S).answer.reply ≡ 0) where
  abbrev heat : AfterHeat
  heat = One.heat book tapes R S X O G pre post l few z

  abbrev before : Leaving
  before = after book tapes R S X O G pre

  abbrev record_of_lem : Lane
  record_of_lem = (lane_of book tapes R S X O G l before).lane

  abbrev all : ℕ
  all = length (rewriting (rules_in book) (tape_of tapes l))

  built : AsBuilt book (build_def book R S).rows (build_def book R S).sets
  built = as_built book R S z

  -- its record is that of its tape's REWRITE, with the room that the lanes before leave
  pub the_record : get_or heat.lanes (length pre) no_lane ≡ record_of_lem
  the_record = One.the_record book tapes R S X O G pre post l few z

  -- "Each lane's output goes into the common output right after that of the lane before, and a refused lane uses no room"
  pub the_place : before.used ≡ used (take (length pre) heat.lanes)
  the_place = One.the_place book tapes R S X O G pre post l few z

  -- what stands there in the end: its tape's rewriting, as many symbols as its record says,
  out_fits : record_of_lem.out ≤ all
  out_fits = Change.lane_length book _ _ built tapes l before

  pub the_symbols : take record_of_lem.out (drop before.used heat.out) ≡ take record_of_lem.out (written_of book tapes l)
  the_symbols =
      One.symbols_stay book tapes R S X O G pre post l few z (written_of book tapes l)
      (omega (arith, out_fits, symbols_length (rewriting (rules_in book) (tape_of tapes l)))) (Change.lane_writes book _ _ tapes l before)

  pub the_origins : take record_of_lem.out (drop before.used heat.origins) ≡ take record_of_lem.out (written_origins book tapes l)
  the_origins =
      One.origins_stay book tapes R S X O G pre post l few z (written_origins book tapes l)
      (omega (arith, out_fits, origins_length (rewriting (rules_in book) (tape_of tapes l)))) (Change.lane_origins book _ _ tapes l before)

  -- whose origins, positions of the lane's own tape, never fall,
  pub the_times : NeverFalls (take record_of_lem.out (drop before.used heat.origins))
  the_times = subst NeverFalls (sym the_origins) (falls_take record_of_lem.out (written_origins book tapes l) (rewriting_rises (rules_in book) (tape_of tapes l)))

  -- which are all of them where it is accepted; there was room then, and with 15 there was none for as many as the place says
  pub all_written : record_of_lem.reply ≡ 0 → record_of_lem.out ≡ all
  all_written = Change.lane_whole book _ _ built tapes l before

  pub with_room : record_of_lem.reply ≡ 0 → RoomFor all before
  with_room = Change.lane_fits book _ _ built tapes l before (One.kept book tapes R S X O G pre post l few z).roomy

  pub without_room : record_of_lem.reply ≡ 15 → (RoomFor all before → ⊥) × (record_of_lem.place ≡ all)
  without_room = Change.lane_short book _ _ built tapes l before (One.kept book tapes R S X O G pre post l few z).roomy

-- what is the same on both sides of a test
by_test₂ {ℓ} : {A : Type 0} {B : Type ℓ} (c : Bool) (f : A → B) {x y x' y' : A} → f x ≡ f x' → f y ≡ f y' → f (cond c x y) ≡ f (cond c x' y')
by_test₂ true f p q = p
by_test₂ false f p q = q

-- 3. "Where no two lanes overlap, a change to one tape changes other lanes only through the place and room of later ones": the common buffers t and
-- t' differ at most in the stretch of the lane m, and the lanes that are named do not overlap it.
module _ (book R S X O G t t' : List ℕ) (m : Lane) (e : Elsewhere t t' m) where
  abbrev heat_of : List ℕ → List Lane → AfterHeat
  heat_of u ls = heat_def book u ls R S X O G

  -- the lanes before m are wholly unchanged: their records, and all that they leave
  module _ (pre post : List Lane) (apart : AllApart m pre) where
    pub before_same : in_turn (lane_of book t R S X O G) pre (leaving 0 X O G) ≡ in_turn (lane_of book t' R S X O G) pre (leaving 0 X O G)
    before_same = Change.same_lanes t t' m e book _ _ pre (leaving 0 X O G) apart

    pub records_before : length (pre ++ (m ∷ post)) ≤ most_lanes → (build_def book R S).answer.reply ≡ 0
        → take (length pre) (heat_of t (pre ++ (m ∷ post))).lanes ≡ take (length pre) (heat_of t' (pre ++ (m ∷ post))).lanes
    records_before few z =
        One.the_first book t R S X O G pre post m few z ∙ ap (λ (r : AfterLanes). r.lanes) before_same
        ∙ sym (One.the_first book t' R S X O G pre post m few z)

  -- the answer and the workspace do not look at the tapes
  module _ (ls : List Lane) where
    pub answer_same : (heat_of t ls).answer ≡ (heat_of t' ls).answer
    unfolding heat_def
    answer_same = by_test₂ (ltb most_lanes (length ls)) (λ (x : AfterHeat). x.answer) refl refl

    pub rows_same : (heat_of t ls).rows ≡ (heat_of t' ls).rows
    unfolding heat_def
    rows_same = by_test₂ (ltb most_lanes (length ls)) (λ (x : AfterHeat). x.rows) refl refl

    pub sets_same : (heat_of t ls).sets ≡ (heat_of t' ls).sets
    unfolding heat_def
    sets_same = by_test₂ (ltb most_lanes (length ls)) (λ (x : AfterHeat). x.sets) refl refl

  -- a lane l after m, with the lanes `first` before it in both heats
  module _ (pre mid post : List Lane) (l : Lane) (apart : Apart m l) (few : length ((pre ++ (m ∷ mid)) ++ (l ∷ post)) ≤ most_lanes)
      (z : (build_def book R S).answer.reply ≡ 0) where
    abbrev first : List Lane
    first = pre ++ (m ∷ mid)

    abbrev left : List ℕ → Leaving
    left u = after book u R S X O G first

    abbrev later : List ℕ → Lane
    later u = (lane_of book u R S X O G l (left u)).lane

    abbrev record_of : List ℕ → Lane
    record_of u = get_or (heat_of u (first ++ (l ∷ post))).lanes (length first) no_lane

    abbrev needs : ℕ
    needs = length (rewriting (rules_in book) (tape_of t l))

    same_scratch : length (left t).scratch ≡ length (left t').scratch
    same_scratch = (One.kept book t R S X O G first post l few z).scratch ∙ sym (One.kept book t' R S X O G first post l few z).scratch

    between : later t ≡ later t' → record_of t ≡ record_of t'
    between q = the_record book t R S X O G first post l few z ∙ q ∙ sym (the_record book t' R S X O G first post l few z)

    -- the same reply in both, but that the room decides between 0 and 15; 17, 9, 10 and 12 have the same record
    pub later_class : class (record_of t).reply ≡ class (record_of t').reply
    later_class =
        ap (λ (x : Lane). class x.reply) (the_record book t R S X O G first post l few z)
        ∙ Change.later_class book _ _ t t' m e l apart (left t) (left t') same_scratch
        ∙ sym (ap (λ (x : Lane). class x.reply) (the_record book t' R S X O G first post l few z))

    pub later_refused : ((later t).reply ≡ 0 → ⊥) → ((later t).reply ≡ 15 → ⊥) → record_of t ≡ record_of t'
    later_refused h g =
        between (Change.same_refusal book _ _ t l (left t) (left t') same_scratch h g
        ∙ ap (λ (d : AfterLane). d.lane) (Change.same_lane t t' m e book _ _ l (left t') apart))

    -- without room in both the same record, with the symbols needed
    pub later_short : (RoomFor needs (left t) → ⊥) → (RoomFor needs (left t') → ⊥) → record_of t ≡ record_of t'
    later_short h h' =
        between (Change.later_short book _ _ t t' m e l apart (left t) (left t') same_scratch (One.kept book t R S X O G first post l few z).roomy
        (One.kept book t' R S X O G first post l few z).roomy h h')

    -- with room in both the same record, and the same symbols and origins, each at its own place
    module _ (room : RoomFor needs (left t)) (room' : RoomFor needs (left t')) where
      same : later t ≡ later t'
      same = Change.later_record book _ _ t t' m e l apart (left t) (left t') same_scratch room room'

      pub later_record : record_of t ≡ record_of t'
      later_record = between same

      pub later_symbols : take (later t).out (drop (left t).used (heat_of t (first ++ (l ∷ post))).out)
          ≡ take (later t').out (drop (left t').used (heat_of t' (first ++ (l ∷ post))).out)
      later_symbols =
          the_symbols book t R S X O G first post l few z
          ∙ ap₂ take (ap (λ (x : Lane). x.out) same) (Change.same_written t t' m e l apart book).0
          ∙ sym (the_symbols book t' R S X O G first post l few z)

      pub later_origins : take (later t).out (drop (left t).used (heat_of t (first ++ (l ∷ post))).origins)
          ≡ take (later t').out (drop (left t').used (heat_of t' (first ++ (l ∷ post))).origins)
      later_origins =
          the_origins book t R S X O G first post l few z
          ∙ ap₂ take (ap (λ (x : Lane). x.out) same) (Change.same_written t t' m e l apart book).1
          ∙ sym (the_origins book t' R S X O G first post l few z)
