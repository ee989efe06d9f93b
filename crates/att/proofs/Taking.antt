-- What an accepting answer says of the call: no text is refused with 0, and the bytes written are the text's. Assumes nothing.
use Prim.Native.Nat.{ℕ, zero, suc, ◌+◌, ◌≤◌, ◌<◌}
use mathlib.Core.Path.{◌≡◌, refl, ap, sym, ◌∙◌}
use mathlib.Core.List.{List, []}
use native.Mathlib.Omega.{arith}
use native.Mathlib.Decide.{dec_lt}
use lib.ListN.{length}
use lib.Seq.{take-append_seam}
use Rattle.book.specs.Format.{most_states, most_arcs, right_part}
use Rattle.book.specs.declared.Written.{Written}
use Rattle.att.specs.Reading.{line_at}
use Rattle.att.specs.Text.{Said, Read, refused, accepted, turn, read_from, read_text, lines_in, arc_count, written, state_count, needed, answer_read}
use Rattle.att.specs.Text.{answer_of, import_def}
use Rattle.att.specs.Placed.{import_bytes}
use Rattle.att.specs.Line.{Line, End, Final, Arc, Faulty}
use Rattle.att.proofs.Surveying.{faulty_some}
use Rattle.att.proofs.Answers.{accepting, answer_good, answer_part, answer_read_lem}
use Rattle.att.proofs.Flags.{written_length}

refused_turn : (l : Line) (at : ℕ) (done : List Said) (go : ℕ → List Said → Read) (r p : ℕ) → (l ≡ Faulty r → r ≡ 0 → ⊥)
    → ((next : ℕ) (more : List Said) → go next more ≡ refused r p → r ≡ 0 → ⊥) → turn l at done go ≡ refused r p → r ≡ 0 → ⊥
refused_turn End at done go r p f g e = let z : ◌≡◌ {A = ℕ} 0 1 = cc in let w : ⊥ = omega arith in absurd w
refused_turn (Final x next) at done go r p f g e = g next _ e
refused_turn (Arc x y a next) at done go r p f g e = g next _ e
refused_turn (Faulty k) at done go r p f g e = let z : k ≡ r = cc in f (ap Faulty z)

refused_from : (n : ℕ) (s : List ℕ) (at : ℕ) (done : List Said) (r p : ℕ) → read_from n s at done ≡ refused r p → r ≡ 0 → ⊥
unfolding read_from
refused_from zero s at done r p e = let z : ◌≡◌ {A = ℕ} 0 1 = cc in let w : ⊥ = omega arith in absurd w
refused_from (suc n) s at done r p e =
    refused_turn (line_at s at) at done (λ (next : ℕ) (more : List Said). read_from n s next more) r p (λ q. faulty_some s at r q)
    (λ next more q. refused_from n s next more r p q) e

pub refused_some : (s : List ℕ) (r p : ℕ) → read_text s ≡ refused r p → r ≡ 0 → ⊥
unfolding read_text
refused_some s r p e = refused_from _ s 0 [] r p e

-- what an accepting answer says of the call
pub record Taken (s : List ℕ) (part first : ℕ) (out : List ℕ) : Type 0 where
  pub low : part ≤ right_part
  pub read : read_text s ≡ accepted (lines_in (read_text s))
  pub few : arc_count (lines_in (read_text s)) ≤ most_arcs
  pub top : first + state_count (lines_in (read_text s)) ≤ most_states
  pub bytes : import_bytes s part first out ≡ written part first (lines_in (read_text s))

module _ (s : List ℕ) (part first : ℕ) (out : List ℕ) where
  abbrev answer : Written
  answer = answer_of s part first (length out)

  taken_from : part ≤ right_part → (t : Read) → read_text s ≡ t → (answer_read first (length out) t).reply ≡ 0 → Taken s part first out
  unfolding import_def
  taken_from low (refused r p) i z = absurd (refused_some s r p i z)
  taken_from low (accepted ls) i z =
      let whole : lines_in (read_text s) ≡ ls = ap lines_in i in
      let w = accepting (arc_count ls) (state_count ls) first (length out) z in
      let a : answer ≡ record { reply = 0; place = 0; length = needed ls }
      = answer_read_lem s part first (length out) low ∙ ap (answer_read first (length out)) i
      ∙ answer_good (arc_count ls) (state_count ls) first (length out) w.few w.low w.fits in
      let l : length (written part first ls) ≡ needed ls = written_length part first ls in
      record {
        low = low;
        read = i ∙ ap accepted (sym whole);
        few = rw whole w.few;
        top = rw whole w.low;
        bytes = rw (import_def, a, whole, ← l) (take-append_seam (written part first ls) _);
      }

  pub taken : (import_def s part first out).answer.reply ≡ 0 → Taken s part first out
  unfolding import_def
  taken z = by_case (dec_lt right_part part)
    where
      by_case : Dec (right_part < part) → Taken s part first out
      by_case (yes h) =
          let q : ◌≡◌ {A = ℕ} 5 0 = sym (ap (λ (r : Written). r.reply) (answer_part s part first (length out) h)) ∙ z in
          let w : ⊥ = omega arith in absurd w
      by_case (no h) =
          let low : part ≤ right_part = omega (arith, h) in
          taken_from low (read_text s) refl (sym (ap (λ (r : Written). r.reply) (answer_read_lem s part first (length out) low)) ∙ z)
