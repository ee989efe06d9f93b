-- The answer, case by case.
use Prim.Native.Nat.{ℕ, ◌+◌, ◌*◌, ◌≤◌, ◌<◌}
use mathlib.Core.Path.{◌≡◌, refl, ap, sym, ◌∙◌}
use mathlib.Core.List.{List}
use mathlib.Core.Bool.{Bool, true, false, ◌||◌}
use native.Mathlib.Omega.{arith}
use native.Mathlib.Decide.{dec_lt}
use lib.Dec.{ltb}
use borrow.Author.Tests.{lt-ltb, le-ltb}
use Rattle.book.specs.Format.{most_states, most_arcs}
use Rattle.att.specs.Text.{read_text, refusal, answer_by, answer_read, answer_of}
use Rattle.book.specs.declared.Written.{Written}

or-true : (b : Bool) → (b || true) ≡ true
or-true true = refl
or-true false = refl

module _ (arcs states first room : ℕ) where
  pub answer_arcs : most_arcs < arcs → answer_by arcs states first room ≡ refusal 21 0
  unfolding answer_by
  answer_arcs h = rw (answer_by, lt-ltb most_arcs arcs h)

  pub answer_states : most_states < first + states → answer_by arcs states first room ≡ refusal 21 0
  unfolding answer_by
  answer_states h = rw (answer_by, lt-ltb most_states (first + states) h, or-true (ltb most_arcs arcs))

  module _ (few : arcs ≤ most_arcs) (low : first + states ≤ most_states) where
    pub answer_room : room < 3 * states + 5 * arcs → answer_by arcs states first room ≡ refusal 15 (3 * states + 5 * arcs)
    unfolding answer_by
    answer_room h = rw (answer_by, le-ltb most_arcs arcs few, le-ltb most_states (first + states) low, lt-ltb room (3 * states + 5 * arcs) h)

    pub answer_good : 3 * states + 5 * arcs ≤ room → answer_by arcs states first room ≡ record { reply = 0; place = 0; length = 3 * states + 5 * arcs }
    unfolding answer_by
    answer_good h = rw (answer_by, le-ltb most_arcs arcs few, le-ltb most_states (first + states) low, le-ltb room (3 * states + 5 * arcs) h)

-- an accepting answer says its reasons
pub record Accepting (arcs states first room : ℕ) : Type 0 where
  pub few : arcs ≤ most_arcs
  pub low : first + states ≤ most_states
  pub fits : 3 * states + 5 * arcs ≤ room

pub accepting : (arcs states first room : ℕ) → (answer_by arcs states first room).reply ≡ 0 → Accepting arcs states first room
accepting arcs states first room e = by_case (dec_lt most_arcs arcs) (dec_lt most_states (first + states)) (dec_lt room (3 * states + 5 * arcs))
  where
    by_case : Dec (most_arcs < arcs) → Dec (most_states < first + states) → Dec (room < 3 * states + 5 * arcs) → Accepting arcs states first room
    by_case (yes h) b d = let q : ◌≡◌ {A = ℕ} 21 0 = sym (ap (λ (r : Written). r.reply) (answer_arcs arcs states first room h))
        ∙ e in let z : ⊥ = omega arith in absurd z
    by_case (no h) (yes k) d = let q : ◌≡◌ {A = ℕ} 21 0 = sym (ap (λ (r : Written). r.reply) (answer_states arcs states first room k))
        ∙ e in let z : ⊥ = omega arith in absurd z
    by_case (no h) (no k) (yes m) =
        let f : arcs ≤ most_arcs = omega (arith, h) in
        let l : first + states ≤ most_states = omega (arith, k) in
        let q : ◌≡◌ {A = ℕ} 15 0 = sym (ap (λ (r : Written). r.reply) (answer_room arcs states first room f l m)) ∙ e in let z : ⊥ = omega arith in absurd z
    by_case (no h) (no k) (no m) = record { few = omega (arith, h); low = omega (arith, k); fits = omega (arith, m) }

-- the refusals before the text's own
pub answer_part : (s : List ℕ) (part first room : ℕ) → 2 < part → answer_of s part first room ≡ refusal 5 0
unfolding answer_of
answer_part s part first room h = rw (answer_of, lt-ltb 2 part h)

pub answer_read_lem : (s : List ℕ) (part first room : ℕ) → part ≤ 2 → answer_of s part first room ≡ answer_read first room (read_text s)
unfolding answer_of
answer_read_lem s part first room h = rw (answer_of, le-ltb 2 part h)
