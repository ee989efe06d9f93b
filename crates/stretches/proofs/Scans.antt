-- The walk from a free position: the pruned set, the last end met and its rule; its turns in the code's own numbers. Assumes nothing.
use Prim.Native.Nat.{ℕ, suc, ◌+◌, ◌≤◌, ◌<◌}
use mathlib.Core.Path.{◌≡◌, refl, sym, ap, fun_ext, ◌∙◌}
use mathlib.Core.Logic.{◌≢◌}
use mathlib.Core.Bool.{Bool, cond, true, false}
use mathlib.Core.List.{List}
use native.Mathlib.Omega.{arith}
use native.Mathlib.Decide.{ℕ_discrete}
use borrow.Author.Tests.{eq-eqb, ne_eqb}
use Rattle.std.proofs.Common.{Some, None}
use native.Mathlib.Numerals.{add-one}
use lib.Dec.{eqb}
use lib.ListN.{length, get_or}
use Rattle.book.specs.Reading.{Book, book_of}
use Rattle.book.specs.Language.{rules, rules_in}
use Rattle.book.proofs.Claims.{sound}
use Rattle.sets.specs.Sets.{left_at}
use Rattle.sets.specs.Focus.{focus_first, focus_next}
use Rattle.sets.specs.Tables.{right_set}
use Rattle.stretches.specs.Candidates.{candidate, some_rule, first_of, rules_of}
use Rattle.stretches.specs.Ready.{Ready, RightSets}
use Rattle.stretches.specs.Position.{no_rule, hit_rule, up_to, end_of, rule_in, lowest, TakenHere}
use Rattle.stretches.specs.declared.walk.Taken.{Taken}
use Rattle.stretches.proofs.First.{first_hit, first_miss}
use Rattle.stretches.proofs.CandidateSets.{Best, best_first, best_next, best_end, best_dead}
use Rattle.stretches.proofs.Pruned.{Pruned, pruned_start, pruned_turn, pruned_hits}

-- the walk has come to j: `end` is where the last candidate met ends, i itself if none past it was met, and `rule` is its rule, no rule's number if
-- none was met
pub record Scanned (b : Book) (t : List ℕ) (i j set end rule : ℕ) : Type 0 where
  pub walk : Pruned b t i j set
  pub best : Best (rules b) t i j end
  pub who : rule ≡ lowest (rules b) t i end

pub rights_of : (book tape rows sets scratch : List ℕ) → Ready book tape rows sets scratch → RightSets book tape sets scratch
rights_of book tape rows sets scratch r = record { accepted = r.accepted; sets_room = r.sets_room; scratch_room = r.scratch_room; right = r.right }

module _ (book tape sets scratch : List ℕ) (seen : RightSets book tape sets scratch) (i : ℕ) where
  abbrev b : Book
  b = book_of book

  -- the lowest rule that passes at an end is the lowest that has a candidate there, the empty one among them
  hit_lowest : (j set R r : ℕ) → Pruned b tape i j set → R ≡ right_set sets (get_or scratch j 0) → r ≡ hit_rule b set R → r ≡ lowest (rules b) tape i j
  unfolding hit_rule
  hit_lowest j set R r p e g =
      g ∙ ap (λ (q : ℕ → Bool). first_of q (rules_of (rules b)) no_rule) (fun_ext (pruned_hits book tape sets scratch seen i j set p R e))

  pub walk_start : (L R F r : ℕ) → i ≤ length tape → L ≡ left_at b tape i → R ≡ right_set sets (get_or scratch i 0) → F ≡ focus_first b L R
      → r ≡ hit_rule b F R → Scanned b tape i i F i r
  walk_start L R F r k e f g h =
      let p = pruned_start book tape sets scratch seen i L R F k e f g in
      record { walk = p; best = best_first (rules b) tape i; who = hit_lowest i F R r p f h }

  module _ (j set end rule : ℕ) (was : Scanned b tape i j set end rule) where
    module _ (inside : j < length tape) (R X r : ℕ) (e : R ≡ right_set sets (get_or scratch (j + 1) 0)) (f : X ≡ focus_next b set (get_or tape j 0) R)
        (g : r ≡ hit_rule b X R) where
      next_walk : Pruned b tape i (j + 1) X
      next_walk = pruned_turn book tape sets scratch seen i j set was.walk inside R X e f

      next_rule : r ≡ lowest (rules b) tape i (j + 1)
      next_rule = hit_lowest (j + 1) X R r next_walk e g

      next_best : (c : Bool) → some_rule (rules b) tape i (j + 1) ≡ c → Best (rules b) tape i (j + 1) (cond c (j + 1) end)
      next_best c z =
          rw add-one (sym (ap (λ (c : Bool). cond c (suc j) end) (ap (some_rule (rules b) tape i) (sym (add-one j)) ∙ z))
          ∙ best_next (rules b) tape i j end was.walk.low was.best)

      pub walk_hit : r ≢ no_rule → Scanned b tape i (j + 1) X (j + 1) r
      walk_hit h =
          let z = first_hit (candidate (rules b) tape i (j + 1)) 0 (length b.words) no_rule 0 (λ q. h (next_rule ∙ q)) in
          record { walk = next_walk; best = next_best true z.0; who = next_rule }

      pub walk_miss : r ≡ no_rule → Scanned b tape i (j + 1) X end rule
      walk_miss h =
          let few : 0 + length b.words ≤ no_rule = omega (arith, (sound book seen.accepted).rules) in
          let z = first_miss (candidate (rules b) tape i (j + 1)) 0 (length b.words) no_rule few (sym next_rule ∙ h) in
          record { walk = next_walk; best = next_best false z; who = was.who }

    pub walk_dead : set ≡ 0 → TakenHere (rules_in book) tape i end rule
    walk_dead z = record {
      far = best_dead b (sound book seen.accepted) tape i j end was.walk.low was.walk.high (sym was.walk.states ∙ z) was.best;
      who = was.who;
    }

    pub walk_end : length tape ≤ j → TakenHere (rules_in book) tape i end rule
    walk_end z =
        let m = was.walk.high in
        record { far = best_end (rules b) tape i j end was.walk.low (omega arith) was.best; who = was.who }

-- what passes at an end, as an answer
pub up_to_low : (end r : ℕ) → r < no_rule → Some (record { end = end; rule = r }) ≡ up_to end r
up_to_low end r h = sym (ap (λ (c : Bool). cond c None (Some (record { end = end; rule = r }))) (ne_eqb r no_rule (λ e. omega arith)))

-- what an answer says
pub hit_some : (t : Taken) (end r : ℕ) → Some t ≡ up_to end r → (t ≡ record { end = end; rule = r }) × (r ≢ no_rule)
hit_some t end r e = go (ℕ_discrete r no_rule)
  where
    go : Dec (r ≡ no_rule) → (t ≡ record { end = end; rule = r }) × (r ≢ no_rule)
    go (yes f) = let z : Some t ≡ None = e ∙ ap (λ (c : Bool). cond c None (Some (record { end = end; rule = r }))) (eq-eqb r no_rule f) in absurd (cc z)
    go (no f) =
        let z : Some t ≡ Some (record { end = end; rule = r }) = e ∙ ap (λ (c : Bool). cond c None (Some (record { end = end; rule = r }))) (ne_eqb r no_rule f) in (cc z, f)

pub hit_none : (end r : ℕ) → None ≡ up_to end r → r ≡ no_rule
hit_none end r e = go (ℕ_discrete r no_rule)
  where
    go : Dec (r ≡ no_rule) → r ≡ no_rule
    go (yes f) = f
    go (no f) =
        let z : None ≡ Some (record { end = end; rule = r }) = e ∙ ap (λ (c : Bool). cond c None (Some (record { end = end; rule = r }))) (ne_eqb r no_rule f) in absurd (cc z)

-- at the walk's start either answer ends there
module _ (i r : ℕ) where
  pub start_end : end_of i (up_to i r) ≡ i
  start_end = go (eqb r no_rule)
    where
      go : (c : Bool) → end_of i (cond c None (Some (record { end = i; rule = r }))) ≡ i
      go true = refl
      go false = refl

  pub start_rule : rule_in (up_to i r) ≡ r
  start_rule = go (ℕ_discrete r no_rule)
    where
      go : Dec (r ≡ no_rule) → rule_in (up_to i r) ≡ r
      go (yes f) = ap (λ (c : Bool). rule_in (cond c None (Some (record { end = i; rule = r })))) (eq-eqb r no_rule f) ∙ sym f
      go (no f) = ap (λ (c : Bool). rule_in (cond c None (Some (record { end = i; rule = r })))) (ne_eqb r no_rule f)
