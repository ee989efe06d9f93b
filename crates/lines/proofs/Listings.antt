-- The account of a tape, start after start, where one stretch decides at each position; ACCOUNT's two answers after a build, and what they leave.
-- Assumes nothing.
use Prim.Native.Nat.{ℕ, suc, ◌-◌, ◌*◌, ◌/◌, ◌≤◌, ◌<◌}
use mathlib.Core.Path.{◌≡◌, refl, sym, ap, ◌∙◌, subst}
use mathlib.Core.Logic.{by_cases}
use mathlib.Core.Bool.{Bool, true, false}
use mathlib.Core.List.{List, [], ◌∷◌, ◌++◌}
use native.Mathlib.Omega.{arith}
use native.Mathlib.Nat.{zero-add}
use native.Mathlib.Decide.{dec_lt}
use borrow.Author.Tests.{lt-ltb, le-ltb, le-leb, lt-leb, leb-true}
use lib.Dec.{T, leb}
use lib.ListN.{length, drop}
use Rattle.std.proofs.Common.{Bor, Option, Some, None}
use Rattle.book.specs.Language.{Rules}
use Rattle.stretches.specs.Candidates.{candidate, some_rule, longest, rule_of, keep}
use Rattle.stretches.specs.Account.{Line, each, line_for, lines_at, account, line_length, words_in}
use Rattle.stretches.specs.Sentences.{Candidate}
use Rattle.stretches.specs.Buffers.{onto}
use Rattle.lines.specs.Listing.{AfterLines, lines_leave, words_needed, lines_def}
use Rattle.stretches.specs.Position.{no_rule, lowest, TakenHere}
use Rattle.stretches.specs.declared.pass.Pass.{Pass}
use Rattle.lines.specs.Coming.{rules_for, tape_of, NextStart}
use Rattle.lines.specs.declared.ends.Start.{Start}
use Rattle.lines.specs.declared.ends.Starts.{Starts}
use Rattle.lines.specs.Lines.{DecidesBy, decided, decider, deciding_at, line_by, end_lines, start_lines, LinesFit, LinesPut}
use Rattle.lines.specs.declared.writing.Deciding.{Deciding}
use Rattle.book.proofs.Claims.{sound}
use Rattle.book.proofs.Tests.{any_up}
use Rattle.stretches.proofs.Lists.{by_test, each_same}
use Rattle.stretches.proofs.First.{first_below, first_some, first_miss}
use Rattle.stretches.proofs.Onto.{onto_length}
use Rattle.stretches.proofs.Walks.{Some as SomeRule, over, over_suc, over_zero, cover_in, cover_new, stands, symbol_at, Place, inside, begins, alone, place}
use Rattle.stretches.proofs.Counts.{words_length}
use Rattle.stretches.proofs.Along.{from, from_all, from_step}
use Rattle.lines.proofs.Tallies.{rules_over}
use Rattle.lines.proofs.Written.{Written, written_start, written_room, written_turn, written_end, put_none, end_start, end_rest}

-- ---- what decides

module _ (b : Rules) (t : List ℕ) where
  -- the stretch taken last goes on
  pub deciding_in : (i : ℕ) (c : Deciding) → i < c.end → c ≡ deciding_at b t i c
  unfolding deciding_at
  deciding_in i c h = rw (lt-ltb i c.end h)

  -- or something new may begin
  deciding_fresh : (i : ℕ) (c : Deciding) → c.end ≤ i → deciding_at b t i c ≡ record { start = i; end = longest b t i; rule = lowest b t i (longest b t i) }
  unfolding deciding_at
  deciding_fresh i c h = rw (le-ltb i c.end h)

  pub deciding_new : (i : ℕ) (c : Deciding) (end rule : ℕ) → c.end ≤ i → TakenHere b t i end rule
      → record { start = i; end = end; rule = rule } ≡ deciding_at b t i c
  deciding_new i c end rule h k = (λ x. record { start = i; end = k.far x; rule = (k.who ∙ ap (lowest b t i) k.far) x }) ∙ sym (deciding_fresh i c h)

  deciding_start : deciding_at b t 0 (decided 0 None) ≡ decider b t (over b t 0)
  deciding_start = deciding_fresh 0 (decided 0 None) (omega arith) ∙ ap (decider b t) (sym (over_zero b t))

  deciding_turn : (i : ℕ) → deciding_at b t (suc i) (decider b t (over b t i)) ≡ decider b t (over b t (suc i))
  deciding_turn i = by_cases (dec_lt (suc i) (over b t i).end)
      (λ h. sym (deciding_in (suc i) (decider b t (over b t i)) h) ∙ ap (decider b t) (sym (over_suc b t i ∙ cover_in b t (suc i) (over b t i) h)))
      (λ h. deciding_fresh (suc i) (decider b t (over b t i)) (omega arith)
      ∙ ap (decider b t) (sym (over_suc b t i ∙ cover_new b t (suc i) (over b t i) (omega arith))))

  -- nothing decides at the next position what nothing decided here
  decided_up : (i : ℕ) (o : Option Deciding) → deciding_at b t (suc i) (decided (suc i) o) ≡ deciding_at b t (suc i) (decided i o)
  decided_up i (Some d) = refl
  decided_up i None = deciding_fresh (suc i) (decided (suc i) None) (omega arith) ∙ sym (deciding_fresh (suc i) (decided i None) (omega arith))

  -- where a candidate starts at i a taken stretch stands over i, and so its rule is the lowest
  some_rule_lem : (s e : ℕ) → SomeRule b t s e → rule_of b t s e ≡ lowest b t s e
  some_rule_lem s e c =
      let k = c.cand.known in
      first_some (candidate b t s e) 0 (length b.words) 0 no_rule c.rule (omega arith) (omega arith) c.cand.holds

  decides_some : (i j r : ℕ) → Candidate b t i j r → Place b t i → SomeRule b t (over b t i).start (over b t i).end
  decides_some i j r c (inside s e w h g o) = rw o w.some
  decides_some i j r c (begins e w o) = rw o w.some
  decides_some i j r c (alone n o) = absurd (n j (record { rule = r; cand = c }))

  who_decides : (i j r : ℕ) → Candidate b t i j r → Place b t i
      → rule_of b t (over b t i).start (over b t i).end ≡ lowest b t (over b t i).start (over b t i).end
  who_decides i j r c p = some_rule_lem (over b t i).start (over b t i).end (decides_some i j r c p)

  some_passes : (s e : ℕ) → SomeRule b t s e → T (some_rule b t s e)
  some_passes s e c = let k = c.cand.known in (any_up (candidate b t s e) 0 (length b.words)).1 (c.rule, omega arith, omega arith, c.cand.holds)

  kept_line : (c : Bool) (x y : Line) → (T c → x ≡ y) → keep c x ≡ keep c y
  kept_line true x y h = ap (λ (z : Line). z ∷ []) (h tt)
  kept_line false x y h = refl

  -- the lines of a start, where what stands over it decides
  lines_here : (i : ℕ) (x : List ℕ) → i ≤ length t → lines_at b t i x (over b t i) ≡ start_lines b t i (decider b t (over b t i))
  unfolding start_lines
  lines_here i x low =
      each_same (λ (j : ℕ). each (own j) 0 (length b.words)) (end_lines b t i (decider b t (over b t i))) i (suc (length t) - i)
      (λ j g h. each_same (own j) (λ (r : ℕ). keep (candidate b t i j r) (line_by i j r (decider b t (over b t i)))) 0 (length b.words)
      (λ r k l. kept_line (candidate b t i j r) (line_for b t i j r (over b t i)) (line_by i j r (decider b t (over b t i)))
      (λ c. same j r (who_decides i j r (record { ordered = g; inside = omega arith; known = omega arith; holds = c }) (place b t i low)))))
    where
      own : ℕ → ℕ → List Line
      own j r = keep (candidate b t i j r) (line_for b t i j r (over b t i))

      same : (j r : ℕ) → rule_of b t (over b t i).start (over b t i).end ≡ lowest b t (over b t i).start (over b t i).end
          → line_for b t i j r (over b t i) ≡ line_by i j r (decider b t (over b t i))
      same j r e = ap (λ (q : ℕ). line_by i j r (record { start = (over b t i).start; end = (over b t i).end; rule = q })) e

  -- and where none stands over i no candidate starts there
  pub none_here : (few : length b.words ≤ no_rule) (i : ℕ) (d : Deciding) → i ≤ length t → (decider b t (over b t i)).rule ≡ no_rule → start_lines b t i d ≡ []
  none_here few i d low e =
      let s = over b t i in
      let miss = first_miss (candidate b t s.start s.end) 0 (length b.words) no_rule (omega (arith, few)) e in
      end_start b t i d
      ∙ end_rest b t i d i (λ r k g h f x. subst T miss (some_passes s.start s.end
      (decides_some i k r (record { ordered = h; inside = f; known = g; holds = x }) (place b t i low))))

-- ---- the whole tape

-- the lines of the starts that come before what is left are written, and `last` decides at the last of these
pub record Accounting (p : Pass) (left : Starts) (l₀ l : List ℕ) (at : ℕ) (last : Option Deciding) : Type 0 where
  pub pass : left.pass.now ≡ p
  pub written : Written (account (rules_over p) p.walk.tape.now) l₀ 0 l at (from (rules_over p) p.walk.tape.now (lines_at (rules_over p) p.walk.tape.now) left.at)
  pub next :
      deciding_at (rules_over p) p.walk.tape.now left.at (decided left.at last) ≡ decider (rules_over p) p.walk.tape.now (over (rules_over p) p.walk.tape.now left.at)

module _ (p : Pass) (left : Starts) (l₀ : List ℕ) where
  abbrev R : Rules
  R = rules_over p

  abbrev t : List ℕ
  t = p.walk.tape.now

  abbrev line_from : ℕ → List Line
  line_from = from R t (lines_at R t)

  pub accounting_start : left.pass.now ≡ p → left.at ≡ 0 → length (words_in (account R t)) ≤ length l₀ → Accounting p left l₀ l₀ 0 None
  unfolding account
  accounting_start e f h = record {
    pass = e;
    written = rw f (subst (Written (account R t) l₀ 0 l₀ 0) (from_all R t (lines_at R t)) (written_start (account R t) l₀ 0 (omega arith)));
    next = rw f (deciding_start R t);
  }

  module _ (l : List ℕ) (at : ℕ) (last : Option Deciding) (was : Accounting p left l₀ l at last) where
    module _ (s : Start) (left' : Starts) (next : NextStart left s left') where
      pub same_pass : s.pass.now ≡ p
      same_pass = ap (λ (q : Bor Pass). q.now) next.pass ∙ was.pass

      module _ (o : Option Deciding) (e : decided s.at o ≡ deciding_at (rules_for s) (tape_of s) s.at (decided s.at last)) where
        inside_lem : left.at ≤ length t
        inside_lem = let h = s.within in omega (arith, ap (λ (q : Pass). length q.walk.tape.now) same_pass, next.at)

        decides : decided left.at o ≡ decider R t (over R t left.at)
        decides =
            ap (λ (i : ℕ). decided i o) (sym next.at) ∙ e ∙ ap (λ (q : Pass). deciding_at (rules_over q) q.walk.tape.now s.at (decided s.at last)) same_pass
            ∙ ap (λ (i : ℕ). deciding_at R t i (decided i last)) next.at ∙ was.next

        few : length R.words ≤ no_rule
        few = (sound p.walk.outline.states.book.now p.ready.accepted).rules

        step : line_from left.at ≡ start_lines R t left.at (decided left.at o) ++ line_from (suc left.at)
        step = from_step R t (lines_at R t) left.at inside_lem
            ∙ ap (λ (x : List Line). x ++ line_from (suc left.at)) (lines_here R t left.at (symbol_at R t left.at) inside_lem ∙ ap (start_lines R t left.at) (sym decides))

        turned : (at' : ℕ) (l' : List ℕ) → LinesPut (start_lines R t left.at (decided left.at o)) at l at' l' → Accounting p left' l₀ l' at' o
        turned at' l' did = record {
          pass = ap (λ (q : Bor Pass). q.now) next.pass_after ∙ was.pass;
          written = rw next.at_after
              (written_turn (account R t) l₀ 0 l at (line_from left.at) was.written (start_lines R t left.at (decided left.at o)) (line_from (suc left.at)) step at' l' did);
          next = rw next.at_after (decided_up R t left.at o ∙ ap (deciding_at R t (suc left.at)) decides ∙ deciding_turn R t left.at);
        }

        -- where nothing decides there is nothing to write
        pub accounting_none : o ≡ None → Accounting p left' l₀ l at o
        accounting_none f =
            let rule : (decider R t (over R t left.at)).rule ≡ no_rule = ap (λ (x : Deciding). x.rule) (sym decides ∙ ap (decided left.at) f) in
            turned at l (put_none _ at l (none_here R t few left.at (decided left.at o) inside_lem rule))

        module _ (d : Deciding) (f : o ≡ Some d) where
          own : decided left.at o ≡ d
          own = ap (decided left.at) f

          lines_own : start_lines R t left.at (decided left.at o) ≡ start_lines (rules_for s) (tape_of s) s.at d
          lines_own = ap (start_lines R t left.at) own
              ∙ sym (ap (λ (q : Pass). start_lines (rules_over q) q.walk.tape.now s.at d) same_pass ∙ ap (λ (i : ℕ). start_lines R t i d) next.at)

          pub deciding_here : DecidesBy s.at d
          deciding_here =
              let c = over R t left.at in
              let low = first_below (candidate R t c.start c.end) 0 (length R.words) no_rule (suc no_rule) (omega (arith, few)) (omega arith) in
              let is : d ≡ decider R t c = sym own ∙ decides in
              record {
                start = omega (arith, ap (λ (x : Deciding). x.start) is, (stands R t left.at).low, next.at);
                rule = omega (arith, ap (λ (x : Deciding). x.rule) is, low);
              }

          pub accounting_room : LinesFit (start_lines (rules_for s) (tape_of s) s.at d) at l
          accounting_room = subst (λ (x : List Line). LinesFit x at l) lines_own
              (written_room (account R t) l₀ 0 l at (line_from left.at) was.written (start_lines R t left.at (decided left.at o)) (line_from (suc left.at)) step)

          pub accounting_turn : (at' : ℕ) (l' : List ℕ) → LinesPut (start_lines (rules_for s) (tape_of s) s.at d) at l at' l' → Accounting p left' l₀ l' at' (Some d)
          accounting_turn at' l' did =
              subst (Accounting p left' l₀ l' at') f (turned at' l' (subst (λ (x : List Line). LinesPut x at l at' l') (sym lines_own) did))

    pub accounting_end : length left.pass.now.walk.tape.now < left.at → l ≡ onto (words_in (account R t)) l₀
    accounting_end h =
        let W : List ℕ = words_in (account R t) in
        let z : suc (length t) - left.at ≡ 0 = omega (arith, ap (λ (q : Pass). length q.walk.tape.now) was.pass) in
        (written_end (account R t) l₀ 0 l at (line_from left.at) was.written (ap (each (λ (k : ℕ). lines_at R t k (symbol_at R t k) (over R t k)) left.at) z)).lines
        ∙ ap (λ (n : ℕ). W ++ drop n l₀) (zero-add (length W))

-- ---- the two answers

module _ (b : Rules) (t lines : List ℕ) (n : ℕ) (e : n ≡ length (account b t)) where
  pub short : length lines / line_length < n → lines_leave (record { reply = 15; place = line_length * n; candidates = 0 }) lines ≡ lines_def b t lines
  unfolding lines_def
  short h =
      let g : length lines < words_needed b t = omega arith in
      rw (lt-leb (words_needed b t) (length lines) g)
      (ap {B = AfterLines} (λ (k : ℕ). lines_leave (record { reply = 15; place = line_length * k; candidates = 0 }) lines) e)

  pub room : n ≤ length lines / line_length → length (words_in (account b t)) ≤ length lines
  room h = let w = words_length (account b t) in omega arith

  pub long : n ≤ length lines / line_length → (l : List ℕ) → l ≡ onto (words_in (account b t)) lines
      → lines_leave (record { reply = 0; place = 0; candidates = n }) l ≡ lines_def b t lines
  unfolding lines_def
  long h l f =
      let g : words_needed b t ≤ length lines = omega arith in
      rw (le-leb (words_needed b t) (length lines) g) (λ x. lines_leave (record { reply = 0; place = 0; candidates = e x }) (f x))

-- ---- what they leave: no more lines than there is room for, and the account as long as it was

module _ (b : Rules) (tape lines : List ℕ) where
  pub lines_fit : line_length * (lines_def b tape lines).answer.candidates ≤ length lines
  unfolding lines_def
  lines_fit =
      by_test (λ (x : AfterLines). line_length * x.answer.candidates ≤ length lines) (leb (words_needed b tape) (length lines)) _ _
      (λ e. leb-true (words_needed b tape) (length lines) e) (λ e. omega arith)

  pub lines_kept : length (lines_def b tape lines).lines ≡ length lines
  unfolding lines_def
  lines_kept =
      by_test (λ (x : AfterLines). length x.lines ≡ length lines) (leb (words_needed b tape) (length lines)) _ _
      (λ e. onto_length (words_in (account b tape)) lines (omega (arith, leb-true (words_needed b tape) (length lines) e, words_length (account b tape))))
      (λ e. refl)
