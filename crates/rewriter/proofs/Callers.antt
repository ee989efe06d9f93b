-- What whoever calls REWRITE or ACCOUNT may rely on, for any book, tape and buffers: each buffer keeps its length, and what the answer counts
-- is within the room that was lent. Assumes nothing.
use Prim.Native.Nat.{ℕ, ◌*◌, ◌≤◌, zero-le}
use mathlib.Core.Path.{◌≡◌, refl}
use mathlib.Core.List.{List}
use mathlib.Core.Bool.{Bool}
use native.Mathlib.Omega.{arith}
use lib.Dec.{eqb}
use lib.ListN.{length}
use Rattle.book.specs.Reading.{book_of}
use Rattle.book.specs.Language.{rules_in}
use Rattle.sets.proofs.Tables.{build_rows, build_sets}
use Rattle.stretches.specs.Account.{line_length}
use Rattle.rewriter.specs.Replies.{right_numbers, AfterReady, ready_def, AfterRewrite, rewrite_def, AfterAccount, account_def}
use Rattle.stretches.proofs.Lists.{by_test}
use Rattle.stretches.proofs.Onto.{onto_length}
use Rattle.rewriter.proofs.MakeReady.{ReadyWay, stopped, unbuilt, made, ready_way, numbers_length}
use Rattle.lines.proofs.Listings.{lines_fit, lines_kept}
use Rattle.output.proofs.Tapes.{tape_fits_out, tape_fits_origins, tape_out, tape_origins}

module _ (book tape rows sets scratch : List ℕ) where
  -- workspace and scratch, whichever way the part before the passes ends
  record Lengths (x : AfterReady) : Type 0 where
    in_rows : length x.rows ≡ length rows
    in_sets : length x.sets ≡ length sets
    in_scratch : length x.scratch ≡ length scratch

  lengths : Lengths (ready_def book tape rows sets scratch)
  lengths = by (ready_def book tape rows sets scratch) (ready_way book tape rows sets scratch)
    where
      by : (x : AfterReady) → ReadyWay book tape rows sets scratch x → Lengths x
      by x (stopped h e) = rw e (record { in_rows = refl; in_sets = refl; in_scratch = refl })
      by x (unbuilt h e) = rw e (record { in_rows = build_rows book rows sets; in_sets = build_sets book rows sets; in_scratch = refl })
      by x (made p z e) =
          rw e (record {
            in_rows = build_rows book rows sets;
            in_sets = build_sets book rows sets;
            in_scratch = onto_length (right_numbers (book_of book) tape) scratch (omega (arith, p.scratch_room, numbers_length (book_of book) tape));
          })

  abbrev accepted : Bool
  accepted = eqb (ready_def book tape rows sets scratch).answer.reply 0

  module _ (out origins : List ℕ) where
    pub rewrite_rows : length (rewrite_def book tape rows sets scratch out origins).rows ≡ length rows
    unfolding rewrite_def
    rewrite_rows = by_test (λ (x : AfterRewrite). length x.rows ≡ length rows) accepted _ _ (λ e. lengths.in_rows) (λ e. lengths.in_rows)

    pub rewrite_sets : length (rewrite_def book tape rows sets scratch out origins).sets ≡ length sets
    unfolding rewrite_def
    rewrite_sets = by_test (λ (x : AfterRewrite). length x.sets ≡ length sets) accepted _ _ (λ e. lengths.in_sets) (λ e. lengths.in_sets)

    pub rewrite_scratch : length (rewrite_def book tape rows sets scratch out origins).scratch ≡ length scratch
    unfolding rewrite_def
    rewrite_scratch =
        by_test (λ (x : AfterRewrite). length x.scratch ≡ length scratch) accepted _ _ (λ e. lengths.in_scratch) (λ e. lengths.in_scratch)

    pub rewrite_out : length (rewrite_def book tape rows sets scratch out origins).out ≡ length out
    unfolding rewrite_def
    rewrite_out = by_test (λ (x : AfterRewrite). length x.out ≡ length out) accepted _ _ (λ e. tape_out (rules_in book) tape out origins) (λ e. refl)

    pub rewrite_origins : length (rewrite_def book tape rows sets scratch out origins).origins ≡ length origins
    unfolding rewrite_def
    rewrite_origins =
        by_test (λ (x : AfterRewrite). length x.origins ≡ length origins) accepted _ _
        (λ e. tape_origins (rules_in book) tape out origins) (λ e. refl)

    pub rewrite_fits_out : (rewrite_def book tape rows sets scratch out origins).answer.length ≤ length out
    unfolding rewrite_def
    rewrite_fits_out =
        by_test (λ (x : AfterRewrite). x.answer.length ≤ length out) accepted _ _
        (λ e. tape_fits_out (rules_in book) tape out origins) (λ e. zero-le)

    pub rewrite_fits_origins : (rewrite_def book tape rows sets scratch out origins).answer.length ≤ length origins
    unfolding rewrite_def
    rewrite_fits_origins =
        by_test (λ (x : AfterRewrite). x.answer.length ≤ length origins) accepted _ _
        (λ e. tape_fits_origins (rules_in book) tape out origins) (λ e. zero-le)

  module _ (lines : List ℕ) where
    pub account_lines : length (account_def book tape rows sets scratch lines).lines ≡ length lines
    unfolding account_def
    account_lines = by_test (λ (x : AfterAccount). length x.lines ≡ length lines) accepted _ _ (λ e. lines_kept (rules_in book) tape lines) (λ e. refl)

    pub account_fits : line_length * (account_def book tape rows sets scratch lines).answer.candidates ≤ length lines
    unfolding account_def
    account_fits =
        by_test (λ (x : AfterAccount). line_length * x.answer.candidates ≤ length lines) accepted _ _
        (λ e. lines_fit (rules_in book) tape lines) (λ e. omega arith)
