-- The pruned walk from one position, on which the rewriter stands: the focus states of the stretches that begin there and can still end well.
-- `Candidates` of crates/stretches says what a candidate is, and `focus_test` of proofs/Meaning that the walk finds it.
use Rattle.std.specs.Prelude.{ℕ, List, [], ◌∷◌, ◌++◌, Bool, ◌&&◌, eqb, ltb, drop}
use Rattle.std.proofs.Math.Seq.{slice}
use Rattle.book.specs.Format.{left_part, focus_part}
use Rattle.book.specs.Reading.{Book}
use Rattle.book.specs.Language.{state_of, starts, is_start, is_accept, some_state}
use Rattle.book.specs.StateSets.{member}
use Rattle.sets.specs.Sets.{set_of, into_by, right_last, right_prev, before, left_at, right_at}

-- the set meets the accept states, the start states of a part of rule r
abbrev pub meets_accept : Book → ℕ → ℕ → ℕ → Bool
meets_accept b r part X = some_state b (λ (s : ℕ). is_accept b r part s && member X s)

abbrev pub meets_start : Book → ℕ → ℕ → ℕ → Bool
meets_start b r part X = some_state b (λ (s : ℕ). is_start b r part s && member X s)

-- the first set of the walk: the focus starts of the rules whose left context holds (L), those in the right set R
abbrev pub may_start : Book → ℕ → ℕ → Bool
may_start b L s = starts b focus_part s && meets_accept b (state_of b s).rule left_part L

unfoldable pub focus_first : Book → ℕ → ℕ → ℕ
focus_first b L R = set_of b (λ (s : ℕ). may_start b L s && member R s)

-- before it is cut to R, rule by rule: what the rule r gives, and what the rules below n give
unfoldable pub opened_by : Book → ℕ → ℕ → ℕ
opened_by b L r = set_of b (λ (s : ℕ). eqb (state_of b s).rule r && may_start b L s)

unfoldable pub opened_below : Book → ℕ → ℕ → ℕ
opened_below b L n = set_of b (λ (s : ℕ). ltb (state_of b s).rule n && may_start b L s)

-- one step on: the states that an arc from F leads to, and of these those in the right set R
unfoldable pub focus_step : Book → ℕ → ℕ → ℕ
focus_step b F a = set_of b (into_by b F a)

unfoldable pub focus_next : Book → ℕ → ℕ → ℕ → ℕ
focus_next b F a R = set_of b (λ (s : ℕ). into_by b F a s && member R s)

-- from F over the word u, with v after it; right gives the right set of what is still to come
abbrev pub pruned : {S : Type 0} → (S → ℕ → S → S) → (List ℕ → S) → S → List ℕ → List ℕ → S
pruned go right F [] v = F
pruned go right F (a ∷ u) v = pruned go right (go F a (right (u ++ v))) u v

-- the focus states at j of the stretches that begin at i and can still end well
unfoldable pub focus_at : Book → List ℕ → ℕ → ℕ → ℕ
focus_at b t i j = pruned (focus_next b) (before (right_last b) (right_prev b)) (focus_first b (left_at b t i) (right_at b t i)) (slice i j t) (drop j t)
