-- Lines written one after the other from a place of the account on: what is written and what is still to come make the whole. Then the lines of
-- an end, rule after rule, and of a start, end after end. Assumes nothing.
use Prim.Native.Nat.{ℕ, suc, ◌+◌, ◌-◌, ◌≤◌, ◌<◌}
use mathlib.Core.Path.{◌≡◌, refl, sym, ap, ◌∙◌, subst}
use mathlib.Core.Bool.{Bool, true, false}
use mathlib.Core.List.{List, [], ◌∷◌, ◌++◌}
use native.Mathlib.Omega.{arith}
use native.Mathlib.Numerals.{add-one}
use lib.Dec.{T}
use lib.ListN.{length, take, set, length-append}
use lib.Seq.{sets-eq}
use Rattle.book.specs.Reading.{Book, book_of}
use Rattle.book.specs.Language.{Rules}
use Rattle.stretches.specs.Candidates.{candidate, keep}
use Rattle.stretches.specs.Account.{Line, each, line_words, line_length, line_rule, line_start, line_end, line_verdict, line_deciding, line_deciding_rule, words_in}
use Rattle.stretches.specs.Position.{hits}
use Rattle.lines.specs.Lines.{line_by, DecidesBy, hit_lines, end_lines, start_lines, LinesFit, LinesPut}
use Rattle.lines.specs.Ends.{NoneFrom}
use Rattle.lines.specs.Coming.{bytes, rules_for, tape_of, NextEnd}
use Rattle.lines.specs.declared.writing.Deciding.{Deciding}
use Rattle.lines.specs.declared.ends.Start.{Start}
use Rattle.lines.specs.declared.ends.End.{End}
use Rattle.lines.specs.declared.ends.Ends.{Ends}
use Rattle.lines.proofs.Onward.{end_hits}
use Rattle.stretches.proofs.Lists.{each_none, each_same, keep_not}
use Rattle.stretches.proofs.Counts.{words_append}
use Rattle.stretches.proofs.Front.{Front, front_begin, front_place, front_put, front_finish, put_nil}

words_none : words_in [] ≡ []
unfolding words_in
words_none = refl

-- ---- one line

-- the stores of a line's words, one after the other
pub put_words : (x : Line) (l : List ℕ) (at : ℕ) → at + line_length ≤ length l
    → LinesPut (x ∷ []) at l (at + line_length)
    (set
    (set
    (set
    (set
    (set
    (set l
    (at + line_rule) x.rule)
    (at + line_start) x.start)
    (at + line_end) x.end)
    (at + line_verdict) x.verdict)
    (at + line_deciding) x.deciding)
    (at + line_deciding_rule) x.deciding_rule)
unfolding words_in
put_words x l at h =
    let p0 : at + line_rule ≡ at = omega arith in
    let p1 : at + line_start ≡ suc at = omega arith in
    let p2 : at + line_end ≡ suc (suc at) = omega arith in
    let p3 : at + line_verdict ≡ suc (suc (suc at)) = omega arith in
    let p4 : at + line_deciding ≡ suc (suc (suc (suc at))) = omega arith in
    let p5 : at + line_deciding_rule ≡ suc (suc (suc (suc (suc at)))) = omega arith in
    record { next = refl; lines = rw (p0, p1, p2, p3, p4, p5) (sets-eq (line_words x) l at h) }

pub decides_up : (i n : ℕ) (d : Deciding) → i ≤ n → DecidesBy i d → DecidesBy n d
decides_up i n d h was = record { start = omega (arith, was.start); rule = was.rule }

-- the line of a rule that passes, and none of one that does not
pub kept_room : (hit c : Bool) (x : Line) (at : ℕ) (l : List ℕ) → hit ≡ c → hit ≡ true → LinesFit (keep c x) at l → at + line_length ≤ length l
unfolding words_in
kept_room hit c x at l e f h = subst (λ (d : Bool). LinesFit (keep d x) at l) (sym e ∙ f) h

pub kept_yes : (hit c : Bool) (x : Line) (at : ℕ) (l : List ℕ) (at' : ℕ) (l' : List ℕ) → hit ≡ c → hit ≡ true → LinesPut (x ∷ []) at l at' l'
    → LinesPut (keep c x) at l at' l'
kept_yes hit c x at l at' l' e f h = subst (λ (d : Bool). LinesPut (keep d x) at l at' l') (sym f ∙ e) h

pub put_none : (ls : List Line) (at : ℕ) (l : List ℕ) → ls ≡ [] → LinesPut ls at l at l
unfolding words_in
put_none ls at l e = subst (λ (x : List Line). LinesPut x at l at l) (sym e) (record { next = omega arith; lines = put_nil l at })

pub kept_no : (hit c : Bool) (x : Line) (at : ℕ) (l : List ℕ) → hit ≡ c → hit ≡ false → LinesPut (keep c x) at l at l
kept_no hit c x at l e f = put_none (keep c x) at l (ap (λ (d : Bool). keep d x) (sym e ∙ f))

-- ---- lines after lines

-- of the lines that are written from `at` on, `more` is still to come at p
pub record Written (whole : List Line) (l₀ : List ℕ) (at : ℕ) (l : List ℕ) (p : ℕ) (more : List Line) : Type 0 where
  pub room : LinesFit whole at l₀
  pub front : Front l₀ l p (words_in more) (take at l₀ ++ words_in whole)

pub written_start : (whole : List Line) (l : List ℕ) (at : ℕ) → LinesFit whole at l → Written whole l at l at whole
written_start whole l at h = record { room = h; front = front_begin l (words_in whole) at (omega arith) }

module _ (whole : List Line) (l₀ : List ℕ) (at : ℕ) (l : List ℕ) (p : ℕ) (more : List Line) (was : Written whole l₀ at l p more) where
  module _ (now later : List Line) (e : more ≡ now ++ later) where
    split : words_in more ≡ words_in now ++ words_in later
    split = ap words_in e ∙ words_append now later

    pub written_room : LinesFit now p l
    written_room =
        let h = was.room in
        let c = front_place l₀ l (words_in whole) at p (omega arith) (words_in more) was.front in
        omega (arith, ap length split ∙ length-append (words_in now) (words_in later), was.front.same)

    pub written_turn : (p' : ℕ) (l' : List ℕ) → LinesPut now p l p' l' → Written whole l₀ at l' p' later
    written_turn p' l' did = rw (did.next, did.lines) (record {
      room = was.room;
      front =
          front_put l₀ l p (words_in now) (words_in later) (take at l₀ ++ words_in whole) written_room
          (subst (λ (x : List ℕ). Front l₀ l p x (take at l₀ ++ words_in whole)) split was.front);
    })

  pub written_end : more ≡ [] → LinesPut whole at l₀ p l
  written_end e =
      let h = was.room in
      let z = front_finish l₀ l (words_in whole) at p (omega arith)
      (subst (λ (x : List ℕ). Front l₀ l p x (take at l₀ ++ words_in whole)) (ap words_in e ∙ words_none) was.front) in
      record { next = z.0; lines = z.1 }

-- ---- one end

module _ (b : Book) (X R i j : ℕ) (d : Deciding) where
  abbrev one_rule : ℕ → List Line
  one_rule r = keep (hits b X R r) (line_by i j r d)

  -- the lines of the rules from r on
  abbrev pub from_rule : ℕ → List Line
  from_rule r = each one_rule r (length b.words - r)

-- the lines of the rules below r are written
pub record Lined (b : Book) (X R i j : ℕ) (d : Deciding) (l₀ l : List ℕ) (at p r : ℕ) : Type 0 where
  pub within : r ≤ length b.words
  pub written : Written (hit_lines b X R i j d) l₀ at l p (from_rule b X R i j d r)

module _ (b : Book) (X R i j : ℕ) (d : Deciding) where
  pub lined_none : (l : List ℕ) (at : ℕ) → ((r : ℕ) → hits b X R r ≡ false) → LinesPut (hit_lines b X R i j d) at l at l
  unfolding hit_lines
  lined_none l at h =
      put_none (hit_lines b X R i j d) at l (each_none (one_rule b X R i j d) 0 (length b.words) (λ r k g. ap (λ (c : Bool). keep c (line_by i j r d)) (h r)))

  pub lined_start : (l : List ℕ) (at : ℕ) → LinesFit (hit_lines b X R i j d) at l → Lined b X R i j d l l at at 0
  unfolding hit_lines
  lined_start l at h =
      let z : length b.words ≡ length b.words - 0 = omega arith in
      record {
        within = omega arith;
        written = subst (λ (n : ℕ). Written (hit_lines b X R i j d) l at l at (each (one_rule b X R i j d) 0 n)) z
            (written_start (hit_lines b X R i j d) l at h);
      }

  module _ (l₀ l : List ℕ) (at p r : ℕ) (was : Lined b X R i j d l₀ l at p r) where
    module _ (inside : r < length b.words) where
      rule_step : from_rule b X R i j d r ≡ one_rule b X R i j d r ++ from_rule b X R i j d (suc r)
      rule_step = let z : length b.words - r ≡ suc (length b.words - suc r) = omega arith in ap (each (one_rule b X R i j d) r) z

      pub lined_room : LinesFit (keep (hits b X R r) (line_by i j r d)) p l
      lined_room =
          written_room (hit_lines b X R i j d) l₀ at l p (from_rule b X R i j d r) was.written (one_rule b X R i j d r) (from_rule b X R i j d (suc r)) rule_step

      pub lined_turn : (p' : ℕ) (l' : List ℕ) → LinesPut (keep (hits b X R r) (line_by i j r d)) p l p' l' → Lined b X R i j d l₀ l' at p' (r + 1)
      lined_turn p' l' did = rw add-one (record {
        within = inside;
        written =
            written_turn (hit_lines b X R i j d) l₀ at l p (from_rule b X R i j d r) was.written (one_rule b X R i j d r) (from_rule b X R i j d (suc r))
            rule_step p' l' did;
      })

    pub lined_end : length b.words ≤ r → LinesPut (hit_lines b X R i j d) at l₀ p l
    lined_end h =
        let z : length b.words - r ≡ 0 = omega arith in
        written_end (hit_lines b X R i j d) l₀ at l p (from_rule b X R i j d r) was.written (ap (each (one_rule b X R i j d) r) z)

-- ---- one start

module _ (b : Rules) (t : List ℕ) (i : ℕ) (d : Deciding) where
  -- an end where no rule has a candidate
  end_none : (j : ℕ) → ((r : ℕ) → r < length b.words → T (candidate b t i j r) → ⊥) → end_lines b t i d j ≡ []
  end_none j h =
      each_none (λ (r : ℕ). keep (candidate b t i j r) (line_by i j r d)) 0 (length b.words)
      (λ r k g. keep_not (candidate b t i j r) (line_by i j r d) (h r (omega arith)))

  -- the lines of the ends from j on
  abbrev pub from_end : ℕ → List Line
  from_end j = each (end_lines b t i d) j (suc (length t) - j)

  pub end_start : start_lines b t i d ≡ from_end i
  unfolding start_lines
  end_start = refl

  end_turn : (j : ℕ) → j ≤ length t → from_end j ≡ end_lines b t i d j ++ from_end (suc j)
  end_turn j h = let z : suc (length t) - j ≡ suc (suc (length t) - suc j) = omega arith in ap (each (end_lines b t i d) j) z

  pub end_rest : (j : ℕ) → ((r k : ℕ) → r < length b.words → j ≤ k → k ≤ length t → T (candidate b t i k r) → ⊥) → from_end j ≡ []
  end_rest j h = each_none (end_lines b t i d) j (suc (length t) - j) (λ k g f. end_none k (λ r x. h r k x g (omega arith)))

-- the lines of the rules that pass at an end are those of the rules that have a candidate there
lines_are : (e : End) (d : Deciding) → hit_lines (book_of (bytes e.start)) e.set e.right e.start.at e.at d ≡ end_lines (rules_for e.start) (tape_of e.start) e.start.at d e.at
unfolding hit_lines
lines_are e d =
    let b = book_of (bytes e.start) in
    let t = tape_of e.start in
    each_same (λ (r : ℕ). keep (hits b e.set e.right r) (line_by e.start.at e.at r d)) (λ (r : ℕ). keep (candidate (rules_for e.start) t e.start.at e.at r) (line_by e.start.at e.at r d))
    0 (length b.words)
    (λ r h k. ap (λ (c : Bool). keep c (line_by e.start.at e.at r d)) (end_hits _ _ _ _ e.start.pass.now.walk.right_sets e.start.at e.at e.set e.right e.sets_there r))

-- the lines of the ends of s that come before what is left are written
pub record Listed (s : Start) (left : Ends) (d : Deciding) (l₀ l : List ℕ) (at p : ℕ) : Type 0 where
  pub start : left.start ≡ s
  pub written : Written (start_lines (rules_for s) (tape_of s) s.at d) l₀ at l p (from_end (rules_for s) (tape_of s) s.at d left.at)

module _ (s : Start) (left : Ends) (d : Deciding) where
  abbrev whole : List Line
  whole = start_lines (rules_for s) (tape_of s) s.at d

  abbrev rest : ℕ → List Line
  rest = from_end (rules_for s) (tape_of s) s.at d

  pub listed_start : (l : List ℕ) (at : ℕ) → left.start ≡ s → left.at ≡ s.at → LinesFit whole at l → Listed s left d l l at at
  listed_start l at e f h = record {
    start = e;
    written = rw f (subst (Written whole l at l at) (end_start (rules_for s) (tape_of s) s.at d) (written_start whole l at h));
  }

  module _ (l₀ l : List ℕ) (at p : ℕ) (was : Listed s left d l₀ l at p) where
    module _ (e : End) (left' : Ends) (next : NextEnd left e left') where
      abbrev here : List Line
      here = hit_lines (book_of (bytes e.start)) e.set e.right e.start.at e.at d

      same : e.start ≡ s
      same = next.start ∙ was.start

      step : rest left.at ≡ here ++ rest (suc left.at)
      step =
          let h = e.sets_there.high in
          end_turn (rules_for s) (tape_of s) s.at d left.at (omega (arith, ap (λ (z : Start). length (tape_of z)) same, next.at))
          ∙ ap (λ (x : List Line). x ++ rest (suc left.at))
          (sym (lines_are e d ∙ ap (λ (z : Start). end_lines (rules_for z) (tape_of z) z.at d e.at) same ∙ ap (end_lines (rules_for s) (tape_of s) s.at d) next.at))

      pub listed_room : LinesFit here p l
      listed_room = written_room whole l₀ at l p (rest left.at) was.written here (rest (suc left.at)) step

      pub listed_turn : (p' : ℕ) (l' : List ℕ) → LinesPut here p l p' l' → Listed s left' d l₀ l' at p'
      listed_turn p' l' did = record {
        start = next.start_after ∙ was.start;
        written = rw next.at_after (written_turn whole l₀ at l p (rest left.at) was.written here (rest (suc left.at)) step p' l' did);
      }

    pub listed_end : NoneFrom (rules_for left.start) (tape_of left.start) left.start.at left.at → LinesPut whole at l₀ p l
    listed_end h =
        let none : NoneFrom (rules_for s) (tape_of s) s.at left.at = subst (λ (z : Start). NoneFrom (rules_for z) (tape_of z) z.at left.at) was.start h in
        written_end whole l₀ at l p (rest left.at) was.written (end_rest (rules_for s) (tape_of s) s.at d left.at (λ r k x. none r k))
