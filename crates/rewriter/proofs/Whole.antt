-- REWRITE and ACCOUNT as wholes: what stands after `make_ready`, then after the tape's own function, is what the definition says. Assumes nothing.
use Prim.Native.Nat.{ℕ}
use mathlib.Core.Path.{◌≡◌, ap, ap₂, ◌∙◌}
use mathlib.Core.List.{List}
use lib.ListN.{length}
use borrow.Author.Tests.{eq-eqb, ne_eqb}
use Rattle.book.specs.Reading.{check_def, book_of}
use Rattle.book.specs.Language.{rules_in}
use Rattle.book.specs.declared.Checked.{Checked}
use Rattle.book.specs.Outline.{Placed, Masked}
use Rattle.book.proofs.Claims.{counts, sound}
use Rattle.stretches.specs.Ready.{Outlined}
use Rattle.rewriter.specs.Replies.{AfterReady, ready_leaves, ready_def, rewrite_leaves, rewrite_from, rewrite_def, account_leaves, account_from, account_def}
use Rattle.output.specs.Tape.{AfterTape, tape_leaves, tape_def}
use Rattle.lines.specs.Listing.{AfterLines, lines_leave, lines_def}
use Rattle.rewriter.specs.Replies.{Refusal}
use Rattle.output.specs.declared.Rewritten.{Rewritten}
use Rattle.lines.specs.declared.Accounted.{Accounted}

-- CHECK's count of an accepted book's rules
pub rules_counted : (book : List ℕ) (n : ℕ) → (check_def book).reply ≡ 0 → n ≡ (check_def book).rules → n ≡ length (book_of book).words
rules_counted book n z e = e ∙ ap (λ (x : Checked). x.rules) (counts book z)

-- the outline of an accepted book as it is lent to the passes
pub outlined : (book places masks : List ℕ) (rules : ℕ) → (check_def book).reply ≡ 0 → rules ≡ length (book_of book).words
    → Placed (book_of book).states places → Masked (book_of book).states masks → Outlined (book_of book) rules places masks
outlined book places masks rules z many p m = record { placed = p; tests = record { sound = sound book z; many = many; masked = m } }

module _ (book tape rows sets scratch : List ℕ) (r : Refusal) (R S X : List ℕ) (is : ready_leaves r R S X ≡ ready_def book tape rows sets scratch) where
  module _ (h : r.reply ≡ 0 → ⊥) where
    pub rewrite_refused : (out origins : List ℕ) (w : Rewritten) → w ≡ record { reply = r.reply; place = r.place; length = 0; taken = 0 }
        → rewrite_leaves w R S X out origins ≡ rewrite_def book tape rows sets scratch out origins
    unfolding rewrite_def
    rewrite_refused out origins w e =
        ap (λ (y : Rewritten). rewrite_leaves y R S X out origins) e
        ∙ from (ready_leaves r R S X) h
        ∙ ap (λ (x : AfterReady). rewrite_from x (tape_def (rules_in book) tape out origins) out origins) is
      where
        from : (x : AfterReady) → (x.answer.reply ≡ 0 → ⊥)
            → rewrite_leaves (record { reply = x.answer.reply; place = x.answer.place; length = 0; taken = 0 }) x.rows x.sets x.scratch out origins
            ≡ rewrite_from x (tape_def (rules_in book) tape out origins) out origins
        from x h = simp (ne_eqb _ _ h)

    pub account_refused : (lines : List ℕ) (w : Accounted) → w ≡ record { reply = r.reply; place = r.place; candidates = 0 }
        → account_leaves w R S X lines ≡ account_def book tape rows sets scratch lines
    unfolding account_def
    account_refused lines w e =
        ap (λ (y : Accounted). account_leaves y R S X lines) e
        ∙ from (ready_leaves r R S X) h
        ∙ ap (λ (x : AfterReady). account_from x (lines_def (rules_in book) tape lines) lines) is
      where
        from : (x : AfterReady) → (x.answer.reply ≡ 0 → ⊥)
            → account_leaves (record { reply = x.answer.reply; place = x.answer.place; candidates = 0 }) x.rows x.sets x.scratch lines
            ≡ account_from x (lines_def (rules_in book) tape lines) lines
        from x h = simp (ne_eqb _ _ h)

  module _ (z : r.reply ≡ 0) where
    pub rewrite_done : (out origins : List ℕ) (w : Rewritten) (out' origins' : List ℕ) → tape_leaves w out' origins' ≡ tape_def (rules_in book) tape out origins
        → rewrite_leaves w R S X out' origins' ≡ rewrite_def book tape rows sets scratch out origins
    unfolding rewrite_def
    rewrite_done out origins w out' origins' e =
        from (ready_leaves r R S X) z (tape_leaves w out' origins')
        ∙ ap₂ (λ (x : AfterReady) (y : AfterTape). rewrite_from x y out origins) is e
      where
        from : (x : AfterReady) → x.answer.reply ≡ 0 → (y : AfterTape)
            → rewrite_leaves y.answer x.rows x.sets x.scratch y.out y.origins ≡ rewrite_from x y out origins
        from x z y = simp (eq-eqb _ _ z)

    pub account_done : (lines : List ℕ) (w : Accounted) (lines' : List ℕ) → lines_leave w lines' ≡ lines_def (rules_in book) tape lines
        → account_leaves w R S X lines' ≡ account_def book tape rows sets scratch lines
    unfolding account_def
    account_done lines w lines' e =
        from (ready_leaves r R S X) z (lines_leave w lines')
        ∙ ap₂ (λ (x : AfterReady) (y : AfterLines). account_from x y lines) is e
      where
        from : (x : AfterReady) → x.answer.reply ≡ 0 → (y : AfterLines)
            → account_leaves y.answer x.rows x.sets x.scratch y.lines ≡ account_from x y lines
        from x z y = simp (eq-eqb _ _ z)
