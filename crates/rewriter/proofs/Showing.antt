-- The bounds of the stretch that a line names, case by case; and SHOW of a line of an account is its candidate's stretch. Assumes nothing.
use Prim.Native.Nat.{ℕ, zero, suc, ◌+◌, ◌*◌, ◌≤◌, ◌<◌}
use mathlib.Core.List.{List, [], ◌∷◌, ◌++◌}
use mathlib.Core.Path.{◌≡◌, refl, sym, ap, ◌∙◌}
use native.Mathlib.Omega.{arith}
use borrow.Author.Tests.{le-leb, lt-leb}
use lib.ListN.{length, drop, get_or, length-append, get_or-append}
use lib.Seq.{get_or-append-add}
use Rattle.book.specs.Language.{Rules}
use Rattle.stretches.specs.Account.{Line, account, line_words, line_length, line_start, line_end, line_length_lem, words_in}
use Rattle.stretches.specs.Sentences.{line_number}
use Rattle.stretches.specs.Buffers.{onto}
use Rattle.rewriter.specs.Show.{word_of_line, start_in, end_in, between, words_through, bounds_of}
use Rattle.stretches.proofs.Sorting.{number_in}
use Rattle.stretches.proofs.Accounts.{account_candidates}
use Rattle.stretches.proofs.Counts.{words_length}
use Rattle.stretches.proofs.Onto.{onto_at}

pub bounds_short : (n : ℕ) (l : List ℕ) (k : ℕ) → length l < line_length * (k + 1) → between 0 0 ≡ bounds_of n l k
unfolding bounds_of
bounds_short n l k h = simp (lt-leb (words_through k) (length l) (omega arith))

module _ (n : ℕ) (l : List ℕ) (k s e : ℕ) (whole : line_length * (k + 1) ≤ length l) (ps : s ≡ start_in l k) (pe : e ≡ end_in l k) where
  pub bounds_crossed : e < s → between 0 0 ≡ bounds_of n l k
  unfolding bounds_of
  bounds_crossed h = simp (le-leb (words_through k) (length l) (omega arith), lt-leb (start_in l k) (end_in l k) (omega arith))

  pub bounds_past : s ≤ e → n < e → between 0 0 ≡ bounds_of n l k
  unfolding bounds_of
  bounds_past h g =
      simp (
        le-leb (words_through k) (length l) (omega arith),
        le-leb (start_in l k) (end_in l k) (omega arith),
        lt-leb (end_in l k) n (omega arith),
      )

  pub bounds_stretch : s ≤ e → e ≤ n → between s e ≡ bounds_of n l k
  unfolding bounds_of
  bounds_stretch h g =
      simp (
        le-leb (words_through k) (length l) (omega arith),
        le-leb (start_in l k) (end_in l k) (omega arith),
        le-leb (end_in l k) n (omega arith),
        ps,
        pe,
      )

-- word w of line k of an account is that of its line k
word_of_line_lem : (ls : List Line) (k w : ℕ) → k < length ls → w < line_length → get_or (line_words (line_number ls k)) w 0 ≡ word_of_line (words_in ls) k w
unfolding words_in
word_of_line_lem [] k w h g = absurd (omega arith)
word_of_line_lem (l ∷ ls) zero w h g =
    let n = line_length_lem l in
    let e : w ≡ zero * line_length + w = omega arith in
    sym (get_or-append (line_words l) (words_in ls) 0 w (omega arith)) ∙ ap (λ (x : ℕ). get_or (line_words l ++ words_in ls) x 0) e
word_of_line_lem (l ∷ ls) (suc k) w h g =
    let n = line_length_lem l in
    let e : length (line_words l) + (k * line_length + w) ≡ suc k * line_length + w = omega arith in
    word_of_line_lem ls k w (omega arith) g
    ∙ sym (get_or-append-add (line_words l) (words_in ls) (k * line_length + w) 0)
    ∙ ap (λ (x : ℕ). get_or (line_words l ++ words_in ls) x 0) e

-- in an account that is written over the front of any lines
pub bounds_line : (b : Rules) (t lines : List ℕ) (k : ℕ) → k < length (account b t)
    → between (line_number (account b t) k).start (line_number (account b t) k).end ≡ bounds_of (length t) (onto (words_in (account b t)) lines) k
bounds_line b t lines k h =
    let ls = account b t in
    let l = line_number ls k in
    let c = (account_candidates b t l.start l.end l.rule).1 (l, number_in ls k h, refl, refl, refl) in
    let n = words_length ls in
    let m = length-append (words_in ls) (drop (length (words_in ls)) lines) in
    bounds_stretch (length t) (onto (words_in ls) lines) k l.start l.end (omega arith)
    (word_of_line_lem ls k line_start h (omega arith) ∙ sym (onto_at (words_in ls) lines (k * line_length + line_start) (omega arith)))
    (word_of_line_lem ls k line_end h (omega arith) ∙ sym (onto_at (words_in ls) lines (k * line_length + line_end) (omega arith)))
    c.ordered
    c.inside
