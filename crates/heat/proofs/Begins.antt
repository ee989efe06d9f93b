-- Before the lanes: each way out of `begin` is what the definition says; and after it the whole call is what its definition says. Assumes nothing.
use Prim.Native.Nat.{ℕ, ◌≤◌, ◌<◌}
use mathlib.Core.Path.{◌≡◌, refl, sym, ap, subst, ◌∙◌}
use mathlib.Core.Bool.{Bool, true, false, cond, false≢true}
use mathlib.Core.List.{List}
use native.Mathlib.Omega.{arith}
use lib.Dec.{ltb, eqb}
use lib.ListN.{length}
use borrow.Author.Tests.{eq-eqb, ne_eqb, lt-ltb, le-ltb}
use Rattle.std.specs.Prelude.{Result, Ok, Err}
use Rattle.std.specs.Result.{is_ok}
use Rattle.book.specs.Reading.{check_def}
use Rattle.book.specs.declared.replies.Refusal.{Refusal}
use Rattle.book.specs.declared.Checked.{Checked}
use Rattle.sets.specs.Workspace.{AfterBuild, refusal, build_leaves, build_def}
use Rattle.sets.specs.declared.Built.{Built}
use Rattle.sets.specs.Tables.{AsBuilt}
use Rattle.sets.proofs.Tables.{way_refused, as_built}
use Rattle.heat.specs.declared.Lane.{Lane}
use Rattle.heat.specs.Lanes.{Leaving, leaving, AfterLanes, lanes_leave, lane_def, in_turn}
use Rattle.heat.specs.Heats.{most_lanes, heated, AfterHeat, heat_leaves, after_build, heat_def}
use Rattle.heat.specs.Begins.{heated_of, AfterBegin, begins, begins_built, begin_def}

module _ (book : List ℕ) (n : ℕ) (R S : List ℕ) where
  pub begin_many : most_lanes < n → begins (heated 16 0) R S ≡ begin_def book n R S
  unfolding begin_def
  begin_many h = simp (lt-ltb _ _ h)

  module _ (few : n ≤ most_lanes) where
    -- what BUILD answers
    pub begin_built : (b : Built) (R' S' : List ℕ) → build_leaves b R' S' ≡ build_def book R S → begins (heated b.reply b.place) R' S' ≡ begin_def book n R S
    unfolding begin_def
    begin_built b R' S' is = simp (le-ltb _ _ few) (ap begins_built is)

    -- what CHECK refuses, BUILD does
    pub begin_unchecked : (k : Checked) → k ≡ check_def book → (k.reply ≡ 0 → ⊥) → begins (heated k.reply k.place) R S ≡ begin_def book n R S
    begin_unchecked k is h =
        let b = refusal k.reply k.place in
        begin_built b R S
        (way_refused book R S b (λ z. h (ap (λ (x : Checked). x.reply) is ∙ z)) (ap (λ (x : Checked). refusal x.reply x.place) is))

  -- what stands where nothing is refused
  pub begin_as_built : (b : Built) (R' S' : List ℕ) → build_leaves b R' S' ≡ build_def book R S → b.reply ≡ 0 → AsBuilt book R' S'
  begin_as_built b R' S' is z =
      let e : AfterBuild → Type 0 = λ x. AsBuilt book x.rows x.sets in
      subst e (sym is) (as_built book R S (sym (ap (λ (x : AfterBuild). x.answer.reply) is) ∙ z))

-- for `begin`, in whatever form its code tests CHECK's result: what is refused is handed on, found from `begin_def` alone
pub begin_handed_on : (book : List ℕ) (n : ℕ) (R S : List ℕ) → n ≤ most_lanes → 0 < (check_def book).reply
    → begin_def book n R S ≡ begins (heated (check_def book).reply (check_def book).place) R S
begin_handed_on book n R S few h = sym (begin_unchecked book n R S few (check_def book) refl (λ z. omega arith))

-- ---- the whole call, by what `begin` left: refused, or the lanes in turn
module _ (book tapes : List ℕ) (xs : List Lane) (R S X O G : List ℕ) where
  abbrev pub lanes_from : Leaving
  lanes_from = leaving 0 X O G

  abbrev told : AfterBegin → AfterHeat
  told d =
      let r = cond (eqb d.answer.reply 0) (in_turn (lane_def book tapes d.rows d.sets) xs lanes_from) (lanes_leave xs lanes_from) in
      heat_leaves d.answer r.lanes d.rows d.sets r.left.scratch r.left.out r.left.origins

  begun_told : told (begin_def book (length xs) R S) ≡ heat_def book tapes xs R S X O G
  unfolding begin_def heat_def
  begun_told = by (ltb most_lanes (length xs))
    where
      by : (c : Bool) → told (cond c (begins (heated 16 0) R S) (begins_built (build_def book R S)))
          ≡ cond c (heat_leaves (heated 16 0) xs R S X O G) (after_build book tapes xs X O G (build_def book R S))
      by true = refl
      by false = refl

  module _ (d : AfterBegin) (is : d ≡ begin_def book (length xs) R S) where
    pub heat_stopped : (d.answer.reply ≡ 0 → ⊥) → heat_leaves d.answer xs d.rows d.sets X O G ≡ heat_def book tapes xs R S X O G
    heat_stopped h =
        let e : heat_leaves d.answer xs d.rows d.sets X O G ≡ told d = simp (ne_eqb _ _ h) in
        e ∙ ap told is ∙ begun_told

    pub heat_ran : d.answer.reply ≡ 0 → (r : AfterLanes) → r ≡ in_turn (lane_def book tapes d.rows d.sets) xs lanes_from
        → heat_leaves d.answer r.lanes d.rows d.sets r.left.scratch r.left.out r.left.origins ≡ heat_def book tapes xs R S X O G
    heat_ran z r e =
        let t : heat_leaves d.answer r.lanes d.rows d.sets r.left.scratch r.left.out r.left.origins ≡ told d =
        simp (eq-eqb _ _ z) (ap (λ (y : AfterLanes). heat_leaves d.answer y.lanes d.rows d.sets y.left.scratch y.left.out y.left.origins) e) in
        t ∙ ap told is ∙ begun_told

-- for `try_heat`, in whatever form its code tests the result of `begin`: what is refused is handed on, found from `heat_def` alone
pub heat_handed_on : (book tapes : List ℕ) (xs : List Lane) (R S X O G : List ℕ) → 0 < (begin_def book (length xs) R S).answer.reply
    → heat_def book tapes xs R S X O G
    ≡ heat_leaves (begin_def book (length xs) R S).answer xs (begin_def book (length xs) R S).rows (begin_def book (length xs) R S).sets X O G
heat_handed_on book tapes xs R S X O G h = sym (heat_stopped book tapes xs R S X O G (begin_def book (length xs) R S) refl (λ z. omega arith))

-- and what is not refused has the answer of a call whose lanes have their replies
pub started : {A : Type 0} → (x : Result A Refusal) → is_ok x ≡ true → heated_of x ≡ heated 0 0
started (Ok n) h = refl
started (Err e) h = absurd (false≢true h)
