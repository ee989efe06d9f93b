-- Accepted calls of REWRITE and ACCOUNT: exactly those with an accepted book that can be built, a tape of symbols that is not too long, and room, whatever
-- stood in the buffers; and what they leave at the front of their outputs. Assumes nothing.
use Prim.Native.Nat.{ℕ, ◌≤◌}
use mathlib.Core.Path.{◌≡◌, refl, sym, ap, ◌∙◌}
use mathlib.Core.List.{List}
use mathlib.Core.Bool.{Bool, ◌&&◌, false≢true}
use native.Mathlib.Omega.{arith}
use lib.Dec.{leb, eqb}
use lib.ListN.{length, drop}
use lib.Seq.{take_at}
use borrow.Author.Tests.{leb-true, le-leb, eqb-true, eqb-false}
use Rattle.book.specs.Reading.{check_def}
use Rattle.book.specs.Language.{Rules, rules_in}
use Rattle.book.proofs.Laws.{and_left, and_right}
use Rattle.sets.specs.Workspace.{row_bytes, set_words, build_def}
use Rattle.sets.specs.declared.Built.{Built}
use Rattle.sets.proofs.Tables.{build_answer}
use Rattle.stretches.specs.Buffers.{longest_tape}
use Rattle.stretches.specs.Candidates.{taken}
use Rattle.stretches.specs.Output.{rewriting, symbols_of, origins_of}
use Rattle.stretches.specs.Account.{account, words_in}
use Rattle.stretches.proofs.Counts.{words_length, symbols_length, origins_length}
use Rattle.stretches.proofs.Lists.{by_test}
use Rattle.output.specs.Tape.{AfterTape, tape_def}
use Rattle.lines.specs.Listing.{AfterLines, words_needed, lines_def}
use Rattle.rewriter.specs.Replies.{Refusal}
use Rattle.rewriter.specs.Opening.{Symbols}
use Rattle.rewriter.specs.Replies.{early, AfterReady, ready_def, AfterRewrite, rewrite_leaves, rewrite_def, AfterAccount, account_leaves, account_def}
use Rattle.rewriter.specs.Races.{Lent, rewrite_call, account_call, Room, OutputRoom, AccountRoom, output_of, origins_in, words_of}
use Rattle.rewriter.proofs.Early.{Admitted, early_none, none_bad}
use Rattle.rewriter.proofs.MakeReady.{ReadyWay, stopped, unbuilt, made, ready_way}

-- what a call asks besides room: of the book, and of the tape
pub record Acceptable (book tape : List ℕ) : Type 0 where
  pub accepted : (check_def book).reply ≡ 0
  pub built : (R S : List ℕ) → row_bytes ≤ length R → set_words ≤ length S → (build_def book R S).answer.reply ≡ 0
  pub fits : length tape ≤ longest_tape
  pub symbols : Symbols tape

module _ (book tape : List ℕ) (l : Lent) where
  abbrev ready : AfterReady
  ready = ready_def book tape l.rows l.sets l.scratch

  abbrev building : Built
  building = (build_def book l.rows l.sets).answer

  elsewhere : (a : Admitted book tape (length l.rows) (length l.sets) (length l.scratch)) → building.reply ≡ 0
      → (R S : List ℕ) → row_bytes ≤ length R → set_words ≤ length S → (build_def book R S).answer.reply ≡ 0
  elsewhere a y R S h g =
      ap (λ (x : Built). x.reply) (build_answer book R S l.rows l.sets (record { accepted = a.accepted; rows = h; sets = g })
      (record { accepted = a.accepted; rows = a.rows_room; sets = a.sets_room })) ∙ y

  ready_had : ready.answer.reply ≡ 0 → Acceptable book tape × Room tape l
  ready_had z = by ready (ready_way book tape l.rows l.sets l.scratch) z
    where
      by : (x : AfterReady) → ReadyWay book tape l.rows l.sets l.scratch x → x.answer.reply ≡ 0 → Acceptable book tape × Room tape l
      by x (stopped h e) z = absurd (h (sym (ap (λ (y : AfterReady). y.answer.reply) e) ∙ z))
      by x (unbuilt h e) z = absurd (h (sym (ap (λ (y : AfterReady). y.answer.reply) e) ∙ z))
      by x (made a y e) z = (
        record { accepted = a.accepted; built = elsewhere a y; fits = a.fits; symbols = a.symbols },
        record { in_rows = a.rows_room; in_sets = a.sets_room; in_scratch = a.scratch_room },
      )

  ready_has : Acceptable book tape → Room tape l → ready.answer.reply ≡ 0
  ready_has s r = by ready (ready_way book tape l.rows l.sets l.scratch)
    where
      opened : (early book tape (length l.rows) (length l.sets) (length l.scratch)).reply ≡ 0
      opened =
          let g = none_bad tape s.symbols in
          sym (ap (λ (x : Refusal). x.reply) (early_none book tape (length l.rows) (length l.sets) (length l.scratch)
          s.accepted s.fits (omega arith) r.in_rows r.in_sets r.in_scratch))

      by : (x : AfterReady) → ReadyWay book tape l.rows l.sets l.scratch x → x.answer.reply ≡ 0
      by x (stopped h e) = absurd (h opened)
      by x (unbuilt h e) = absurd (h (s.built l.rows l.sets r.in_rows r.in_sets))
      by x (made a y e) = ap (λ (y : AfterReady). y.answer.reply) e ∙ y

  abbrev b : Rules
  b = rules_in book

  -- ---- REWRITE
  abbrev n : ℕ
  n = length (rewriting b tape)

  abbrev room : Bool
  room = leb n (length l.out) && leb n (length l.origins)

  -- the whole rewriting stands at the front of both outputs
  pub record Wrote (a : AfterRewrite) : Type 0 where
    pub length_is : a.answer.length ≡ length (rewriting b tape)
    pub taken_is : a.answer.taken ≡ length (taken b tape)
    pub symbols : output_of a ≡ symbols_of (rewriting b tape)
    pub origins : origins_in a ≡ origins_of (rewriting b tape)

  pub rewrite_had : (rewrite_call book tape l).answer.reply ≡ 0 → Acceptable book tape × OutputRoom book tape l × Wrote (rewrite_call book tape l)
  unfolding rewrite_def tape_def
  rewrite_had =
      by_test (λ (x : AfterRewrite). x.answer.reply ≡ 0 → Acceptable book tape × OutputRoom book tape l × Wrote x) (eqb ready.answer.reply 0) _ _
      (λ e. by_test (λ (y : AfterTape). y.answer.reply ≡ 0 → Acceptable book tape × OutputRoom book tape l
      × Wrote (rewrite_leaves y.answer ready.rows ready.sets ready.scratch y.out y.origins)) room _ _
      (λ f z. let h = ready_had (eqb-true _ _ e) in (
        h.0,
        record {
          room = h.1;
          in_out = leb-true n (length l.out) (and_left (leb n (length l.out)) (leb n (length l.origins)) f);
          in_origins = leb-true n (length l.origins) (and_right (leb n (length l.out)) (leb n (length l.origins)) f);
        },
        record {
          length_is = refl;
          taken_is = refl;
          symbols = take_at (symbols_of (rewriting b tape)) (drop (length (symbols_of (rewriting b tape))) l.out) n (symbols_length (rewriting b tape));
          origins = take_at (origins_of (rewriting b tape)) (drop (length (origins_of (rewriting b tape))) l.origins) n (origins_length (rewriting b tape));
        },
      ))
      (λ f z. absurd (let q : ◌≡◌ {A = ℕ} 15 0 = z in omega arith)))
      (λ e z. absurd (eqb-false _ _ e z))

  pub rewrite_has : Acceptable book tape → OutputRoom book tape l → (rewrite_call book tape l).answer.reply ≡ 0
  unfolding rewrite_def tape_def
  rewrite_has s h =
      by_test (λ (x : AfterRewrite). x.answer.reply ≡ 0) (eqb ready.answer.reply 0) _ _
      (λ e. by_test (λ (y : AfterTape). y.answer.reply ≡ 0) room _ _ (λ f. refl)
      (λ f. absurd (false≢true (sym f ∙ (rw (le-leb n (length l.out) h.in_out, le-leb n (length l.origins) h.in_origins))))))
      (λ e. absurd (eqb-false _ _ e (ready_has s h.room)))

  -- ---- ACCOUNT
  abbrev k : ℕ
  k = words_needed b tape

  pub record Listed (a : AfterAccount) : Type 0 where
    pub count_is : a.answer.candidates ≡ length (account b tape)
    pub words : words_of a ≡ words_in (account b tape)

  pub account_had : (account_call book tape l).answer.reply ≡ 0 → Acceptable book tape × AccountRoom book tape l × Listed (account_call book tape l)
  unfolding account_def lines_def
  account_had =
      by_test (λ (x : AfterAccount). x.answer.reply ≡ 0 → Acceptable book tape × AccountRoom book tape l × Listed x) (eqb ready.answer.reply 0) _ _
      (λ e. by_test (λ (y : AfterLines). y.answer.reply ≡ 0 → Acceptable book tape × AccountRoom book tape l
      × Listed (account_leaves y.answer ready.rows ready.sets ready.scratch y.lines)) (leb k (length l.lines)) _ _
      (λ f z. let h = ready_had (eqb-true _ _ e) in (
        h.0,
        record { room = h.1; in_lines = leb-true k (length l.lines) f },
        record {
          count_is = refl;
          words = take_at (words_in (account b tape)) (drop (length (words_in (account b tape))) l.lines) k (words_length (account b tape));
        },
      ))
      (λ f z. absurd (let q : ◌≡◌ {A = ℕ} 15 0 = z in omega arith)))
      (λ e z. absurd (eqb-false _ _ e z))

  pub account_has : Acceptable book tape → AccountRoom book tape l → (account_call book tape l).answer.reply ≡ 0
  unfolding account_def lines_def
  account_has s h =
      by_test (λ (x : AfterAccount). x.answer.reply ≡ 0) (eqb ready.answer.reply 0) _ _
      (λ e. by_test (λ (y : AfterLines). y.answer.reply ≡ 0) (leb k (length l.lines)) _ _ (λ f. refl)
      (λ f. absurd (false≢true (sym f ∙ le-leb k (length l.lines) h.in_lines))))
      (λ e. absurd (eqb-false _ _ e (ready_has s h.room)))
