-- What holds of CHECK beside its contract, and what the layers above may rely on, each stated over `check_def` and `book_of`. The walk over
-- the records of an accepted book, each with its place and content, is `Walk` of Walk.antt; the record of each state is `Found` of
-- Placing.antt. That the contract determines the answer is `one_result` of One.antt. Assumes nothing.
use Prim.Native.Nat.{ℕ, zero, suc, ◌<◌}
use mathlib.Core.Path.{◌≡◌, subst}
use mathlib.Core.List.{List}
use mathlib.Core.Logic.{◌≢◌}
use lib.ListN.{length}
use lib.Dec.{eqb}
use borrow.Author.Tests.{eqb-false}
use native.Mathlib.Omega.{arith}
use Rattle.book.specs.Format.{end_kind, byte, end_reply, kind_reply}
use Rattle.book.specs.Reading.{Book, empty, scan_of, accepted, read_from, read_book, answer, check_def, book_of}
use Rattle.book.specs.Language.{state_of}
use Rattle.book.specs.Sound.{Sound}
use Rattle.book.proofs.Passed.{test_passed, passed}
use Rattle.book.proofs.Accepted.{Next, last, more, next, never, is_accepted, accepted_answer}
use Rattle.book.proofs.Retired.{never_7}
use Rattle.book.proofs.Sound.{accepted_sound}
use Rattle.book.proofs.Walk.{walk_start}
use Rattle.book.proofs.Placing.{Found, found}

-- the end record passes its test after a rule alone
end_rule : (s : List ℕ) (at : ℕ) (b : Book) → kind_reply s at (scan_of b) ≡ 0 → byte s at ≡ end_kind → 0 < length b.words
unfolding kind_reply end_reply
end_rule s at b e k =
    let z = eqb-false (length b.words) 0 (test_passed (eqb (length b.words) 0) 3 0 (rw k at e)).0 in
    omega (arith, z)

module _ (s : List ℕ) where
  some_next : (n at : ℕ) (b B : Book) → Next n s at b B → ((at' : ℕ) (b' : Book) → read_from n s at' b' ≡ accepted B → 0 < length B.words)
      → 0 < length B.words
  some_next n at b B (last e k l q) ih = subst (λ (x : Book). 0 < length x.words) q (end_rule s at b (passed s at (scan_of b) e).kind k)
  some_next n at b B (more e k h) ih = ih _ _ h

  some_from : (n at : ℕ) (b B : Book) → read_from n s at b ≡ accepted B → 0 < length B.words
  unfolding read_from
  some_from zero at b B h = absurd (never _ _ _ h)
  some_from (suc n) at b B h = some_next n at b B (next n s at b B h) (λ at' b' h'. some_from n at' b' B h')

  -- document 02, No. 5: "7 is no longer given"
  pub seven_retired : (check_def s).reply ≢ 7
  seven_retired = never_7 s

  module _ (z : (check_def s).reply ≡ 0) where
    -- "Accepted, CHECK returns the counts of rules, states and arcs"
    pub counts : check_def s ≡ answer (accepted (book_of s))
    counts = accepted_answer s z

    -- "rules 1 to 16": at least one
    pub some_rule_lem : 0 < length (book_of s).words
    unfolding read_book
    some_rule_lem = some_from (suc (length s)) 0 empty (book_of s) (is_accepted s z)

    -- limits, words, ranges; both states of an arc given, in one rule and part
    pub sound : Sound (book_of s)
    sound = accepted_sound s (book_of s) (is_accepted s z)

    -- the record of each state, at its place
    pub state_record : (k : ℕ) → k < length (book_of s).states → Found s (book_of s) k (state_of (book_of s) k)
    state_record = found s (book_of s) (walk_start s z)
