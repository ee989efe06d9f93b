-- What the passes over the text know and leave.
use Rattle.std.specs.Prelude.{ℕ, zero, suc, ◌+◌, ◌*◌, ◌≤◌, ◌<◌, ◌≡◌, List, [], ◌∷◌, cond, eqb, ltb, length, take, set, replicate, Option, Some, None, Result, Ok, Err}
use Rattle.std.proofs.lemmas.List.Edits.{sets}
use Rattle.book.specs.Format.{most_states, start_flag, accept_flag, both_flags, state_size, arc_size, flags_at, onto}
use Rattle.book.specs.Refusals.{number}
use Rattle.book.specs.declared.replies.Refusal.{Refusal}
use Rattle.att.specs.Text.{Said, arc, final, Read, refused, accepted, idx, names, arc_count, arc_record}
use Rattle.att.specs.declared.states.Known.{Known}
use Rattle.att.specs.declared.survey.Survey.{Survey}

-- the states that are known
abbrev pub states : Known → List ℕ
states known = take known.count known.list

-- the number of x among the states S, if it is one of them
unfoldable pub number_in : List ℕ → ℕ → Option ℕ
number_in S x = cond (ltb (idx S x) (length S)) (Some (idx S x)) None

-- the states S, or that they are more than there may be
abbrev pub Lists : Option Known → List ℕ → Type 0
Lists (Some known) S = states known ≡ S
Lists None S = most_states < length S

pub record SurveyOf (ls : List Said) (v : Survey) : Type 0 where
  pub arcs : v.arcs ≡ arc_count ls
  pub lists : Lists v.known (names ls)

pub record Refused (r p : ℕ) (e : Refusal) : Type 0 where
  pub reply : number e.reason ≡ r
  pub place : e.place ≡ p

abbrev pub Surveyed : Read → Result Survey Refusal → Type 0
Surveyed (refused r p) (Ok v) = ⊥
Surveyed (refused r p) (Err e) = Refused r p e
Surveyed (accepted ls) (Ok v) = SurveyOf ls v
Surveyed (accepted ls) (Err e) = ⊥

-- the flags of n states before any line is read
unfoldable pub fresh : ℕ → List ℕ
fresh zero = 0 ∷ []
fresh (suc n) = start_flag ∷ replicate n 0

-- o with the bytes vs stored from `at` on
unfoldable pub put : List ℕ → ℕ → List ℕ → List ℕ
put o at vs = sets o at vs

-- the list `out` is o with W written over its front
pub record Filled (out W o : List ℕ) : Type 0 where
  pub room : length W ≤ length o
  pub is : out ≡ onto W o

unfoldable pub final_flags : ℕ → ℕ
final_flags k = cond (eqb k 0) both_flags accept_flag

-- where the first arc's record stands, n states being written
unfoldable pub after_states : ℕ → ℕ
after_states n = state_size * length (fresh n)

-- what the second pass asks of a line: its states are among the states S, and there is room for its record
abbrev pub Listed : Said → List ℕ → ℕ → ℕ → Type 0
Listed (final x) S used room = idx S x < length S
Listed (arc x y a) S used room = (idx S x < length S) × (idx S y < length S) × (used + arc_size ≤ room)

pub record LineFits (line : Said) (S : List ℕ) (used room : ℕ) : Type 0 where
  pub states : state_size * length S ≤ room
  pub listed : Listed line S used room

-- what a line makes of the second pass: the bytes that are written then, and every byte of the output; the states are S
pub record AfterLine : Type 0 where
  pub used : ℕ
  pub out : List ℕ

abbrev pub line_leaves : ℕ → List ℕ → AfterLine
line_leaves used o = record { used = used; out = o }

abbrev pub line_def : Said → List ℕ → ℕ → ℕ → List ℕ → AfterLine
line_def (final x) S first used o = line_leaves used (set o (state_size * idx S x + flags_at) (final_flags (idx S x)))
line_def (arc x y a) S first used o = line_leaves (used + arc_size) (put o used (arc_record first S (arc x y a)))
