-- From the first pass to the plan's answer, and from the writing to the output.
use Prim.Native.Nat.{ℕ, ◌+◌, ◌*◌, ◌≤◌, ◌<◌}
use Rattle.std.specs.Prelude.{Option, Some, None, Ok, Err}
use mathlib.Core.Path.{◌≡◌, refl, ap, sym, ◌∙◌, subst}
use mathlib.Core.List.{List}
use native.Mathlib.Omega.{arith}
use lib.ListN.{length, take}
use lib.Seq.{take-append_seam}
use borrow.Author.Tests.{eq-eqb, ne_eqb}
use Rattle.book.specs.Format.{most_states, right_part}
use Rattle.book.specs.Refusals.{number}
use Rattle.book.specs.declared.Written.{Written}
use Rattle.book.specs.declared.replies.Refusal.{Refusal}
use Rattle.att.specs.Text.{Said, Read, accepted, refused, read_text, lines_in, names, arc_count, flags, state_records, written, state_count, needed}
use Rattle.att.specs.Text.{refusal, answer_by, answer_read, answer_of, import_leaves, import_def}
use Rattle.att.specs.Results.{written_by}
use Rattle.att.specs.Survey.{states, Lists, Surveyed, fresh, Filled}
use Rattle.att.specs.declared.states.Known.{Known}
use Rattle.att.specs.declared.survey.Survey.{Survey}
use Rattle.att.specs.declared.part.Plan.{Plan}
use Rattle.att.proofs.Filling.{filled_length, filled_trans, records_length, fresh_more}
use Rattle.att.proofs.Flags.{flags_long, written_length}
use Rattle.att.proofs.Answers.{Accepting, accepting, answer_states, answer_good, answer_read_lem}
use Rattle.att.proofs.Taking.{refused_some}

-- the answer after the first pass
module _ (s : List ℕ) (part first room : ℕ) (low : part ≤ right_part) where
  pub planned_refused : (e : Refusal) → Surveyed (read_text s) (Err e) → refusal (number e.reason) e.place ≡ answer_of s part first room
  planned_refused e g = by_read (read_text s) g ∙ sym (answer_read_lem s part first room low)
    where
      by_read : (t : Read) → Surveyed t (Err e) → refusal (number e.reason) e.place ≡ answer_read first room t
      by_read (refused r p) q = rw (q.reply, q.place)
      by_read (accepted ls) q = absurd q

  module _ (v : Survey) (g : Surveyed (read_text s) (Ok v)) where
    pub planned_many : v.known ≡ None → refusal 21 0 ≡ answer_of s part first room
    planned_many k = by_read (read_text s) g ∙ sym (answer_read_lem s part first room low)
      where
        by_read : (t : Read) → Surveyed t (Ok v) → refusal 21 0 ≡ answer_read first room t
        by_read (refused r p) q = absurd q
        by_read (accepted ls) q =
            let m : most_states < length (names ls) = subst (λ (o : Option Known). Lists o (names ls)) k q.lists in
            let o : state_count ls ≡ length (fresh (length (names ls))) = flags_long ls (names ls) in
            let d = fresh_more (length (names ls)) in
            sym (answer_states (arc_count ls) (state_count ls) first room (omega arith))

    module _ (known : Known) (k : v.known ≡ Some known) where
      abbrev lines : List Said
      lines = lines_in (read_text s)

      is_accepted : read_text s ≡ accepted lines
      is_accepted = by_read (read_text s) g
        where
          by_read : (t : Read) → Surveyed t (Ok v) → t ≡ accepted (lines_in t)
          by_read (refused r p) q = absurd q
          by_read (accepted ls) q = refl

      pub planned_listed : states known ≡ names (lines_in (read_text s))
      planned_listed = by_read (read_text s) g
        where
          by_read : (t : Read) → Surveyed t (Ok v) → states known ≡ names (lines_in t)
          by_read (refused r p) q = absurd q
          by_read (accepted ls) q = subst (λ (o : Option Known). Lists o (names ls)) k q.lists

      planned_arcs : v.arcs ≡ arc_count (lines_in (read_text s))
      planned_arcs = by_read (read_text s) g
        where
          by_read : (t : Read) → Surveyed t (Ok v) → v.arcs ≡ arc_count (lines_in t)
          by_read (refused r p) q = absurd q
          by_read (accepted ls) q = q.arcs

      module _ (n : ℕ) (c : n ≡ length (fresh (length (states known)))) where
        planned_count : n ≡ state_count (lines_in (read_text s))
        planned_count = c ∙ ap (λ (l : List ℕ). length (fresh (length l))) planned_listed ∙ sym (flags_long _ _)

        pub planned_by : answer_by v.arcs n first room ≡ answer_of s part first room
        planned_by = rw (planned_arcs, planned_count) (sym (ap (answer_read first room) is_accepted)) ∙ sym (answer_read_lem s part first room low)

        -- where it is accepted with this length
        module _ (bytes : ℕ) (a : record { reply = 0; place = 0; length = bytes } ≡ answer_by v.arcs n first room) where
          reasons : Accepting v.arcs n first room
          reasons = accepting v.arcs n first room (sym (ap (λ (w : Written). w.reply) a))

          -- the length is the bytes of the records
          same : bytes ≡ 3 * n + 5 * v.arcs
          same = let h = reasons in ap (λ (w : Written). w.length) (a ∙ answer_good v.arcs n first room h.few h.low h.fits)

          pub planned_fits : bytes ≤ room
          planned_fits = let h = reasons in omega (arith, h.fits, same)

          pub planned_whole : bytes ≡ needed (lines_in (read_text s))
          planned_whole = same ∙ rw (planned_arcs, planned_count)

          pub planned_accepted : (answer_read first bytes (read_text s)).reply ≡ 0
          planned_accepted =
              let h = reasons in
              let w = planned_whole in
              let e = planned_arcs in
              let f = planned_count in
              ap (λ (t : Read). (answer_read first bytes t).reply) is_accepted
              ∙ ap (λ (w : Written). w.reply) (answer_good (arc_count lines) (state_count lines) first bytes (rw (← e) h.few) (rw (← f) h.low) (omega arith))

-- what an accepting plan says of its text, the states L, and the room
pub record Clear (s L : List ℕ) (first room : ℕ) : Type 0 where
  pub good : read_text s ≡ accepted (lines_in (read_text s))
  pub listed : L ≡ names (lines_in (read_text s))
  pub few : length L ≤ most_states
  pub top : first + length L ≤ most_states
  pub enough : needed (lines_in (read_text s)) ≤ room

pub clear : (s L : List ℕ) (first bytes room : ℕ) → (answer_read first bytes (read_text s)).reply ≡ 0 → L ≡ names (lines_in (read_text s))
    → bytes ≡ needed (lines_in (read_text s)) → bytes ≤ room → Clear s L first room
clear s L first bytes room z l w h = by_read (read_text s) refl z
  where
    by_read : (t : Read) → read_text s ≡ t → (answer_read first bytes t).reply ≡ 0 → Clear s L first room
    by_read (refused r p) i q = absurd (refused_some s r p i q)
    by_read (accepted ls) i q =
        let whole : lines_in (read_text s) ≡ ls = ap lines_in i in
        let a = accepting (arc_count ls) (state_count ls) first bytes q in
        let o : state_count ls ≡ length (fresh (length (names ls))) = flags_long ls (names ls) in
        let d = fresh_more (length (names ls)) in
        let e : length L ≡ length (names ls) = ap length l ∙ ap (λ (x : List Said). length (names x)) whole in
        record {
          good = i ∙ ap accepted (sym whole);
          listed = l;
          few = let u = a.low in omega arith;
          top = let u = a.low in omega arith;
          enough = omega arith;
        }

pub plan_clear : (p : Plan) (room : ℕ) → p.bytes ≤ room → Clear p.text.now (states p.known) p.first room
plan_clear p room h = clear p.text.now (states p.known) p.first p.bytes room p.accepted p.listed p.whole h

-- the states' records stand at the front of the output
pub record Ready (out s L : List ℕ) (part first : ℕ) : Type 0 where
  pub clear : Clear s L first (length out)
  pub front : take (3 * length (fresh (length L))) out ≡ state_records part (fresh (length L))

module _ (s L : List ℕ) (part first : ℕ) (o : List ℕ) (k : Clear s L first (length o)) where
  states_long : length (flags (lines_in (read_text s)) (names (lines_in (read_text s)))) ≡ length (fresh (length L))
  states_long = flags_long _ _ ∙ ap (λ (l : List ℕ). length (fresh (length l))) (sym k.listed)

  pub room_states : 3 * length (fresh (length L)) ≤ length o
  room_states = let a = k.enough in let b = states_long in omega arith

  pub ready : (out : List ℕ) → Filled out (state_records part (fresh (length L))) o → Ready out s L part first
  ready out f =
      let l = filled_length out _ o f in
      record {
        clear = subst (λ (m : ℕ). Clear s L first m) (sym l) k;
        front = rw (← records_length part (fresh (length L)), f.is) (take-append_seam (state_records part (fresh (length L))) _);
      }

  pub whole_filled : (out mid : List ℕ) → Filled mid (state_records part (fresh (length L))) o
      → Filled out (written part first (lines_in (read_text s))) mid → Filled out (written part first (lines_in (read_text s))) o
  whole_filled out mid p q =
      let a = written_length part first (lines_in (read_text s)) in
      let b = states_long in
      let d = records_length part (fresh (length L)) in
      filled_trans out _ mid _ o q p (omega arith)

-- IMPORT
module _ (s : List ℕ) (part first : ℕ) (o : List ℕ) (r : Written) (e : r ≡ answer_of s part first (length o)) where
  pub import_refused : (r.reply ≡ 0 → ⊥) → import_leaves r o ≡ import_def s part first o
  unfolding import_def
  import_refused m = sym (rw (import_def, ← e, ne_eqb r.reply 0 m))

  pub import_done : (out : List ℕ) → r.reply ≡ 0 → Filled out (written part first (lines_in (read_text s))) o → import_leaves r out ≡ import_def s part first o
  unfolding import_def
  import_done out z f = sym (rw (import_def, ← e, eq-eqb r.reply 0 z, ← f.is))

-- with the length that is answered
pub import_written : (s : List ℕ) (part first : ℕ) (o out : List ℕ) (n bytes : ℕ) → n ≡ bytes → written_by (Ok bytes) ≡ answer_of s part first (length o)
    → Filled out (written part first (lines_in (read_text s))) o → import_leaves (written_by (Ok n)) out ≡ import_def s part first o
import_written s part first o out n bytes h e f = import_done s part first o _ (rw h e) out refl f
