-- One tape after a build: its two outcomes, as the code answers. The laws of the definition that callers cite are those of Tapes.antt.
-- Assumes nothing.
use Prim.Native.Nat.{ℕ, min, ◌≤◌, ◌<◌}
use mathlib.Core.Path.{◌≡◌, refl, sym, ◌∙◌}
use mathlib.Core.Logic.{by_cases}
use mathlib.Core.Bool as B
use mathlib.Core.List.{List}
use native.Mathlib.Omega.{arith}
use native.Mathlib.Decide.{dec_lt}
use borrow.Author.Tests.{le-leb, lt-leb}
use lib.ListN.{length}
use Rattle.std.specs.Prelude.{Result, Ok, Err}
use Rattle.book.specs.Language.{Rules}
use Rattle.book.specs.declared.replies.Reason.TheVariants.{NoRoom}
use Rattle.book.specs.declared.replies.Refusal.{Refusal}
use Rattle.stretches.specs.Candidates.{taken}
use Rattle.stretches.specs.Output.{rewriting, symbols_of, origins_of}
use Rattle.stretches.specs.Buffers.{onto}
use Rattle.output.specs.Tape.{AfterTape, tape_leaves, tape_def}
use Rattle.output.specs.Results.{rewritten}
use Rattle.output.specs.Passes.{Sized, fits_in}
use Rattle.output.specs.declared.Size.{Size}

-- whether the output has room, as the code decides it
module _ (b : Rules) (t : List ℕ) (room : ℕ) where
  pub fits_yes : length (rewriting b t) ≤ room → Ok tt ≡ fits_in b t room
  unfolding fits_in
  fits_yes h = simp (le-leb _ _ h)

  pub fits_no : (n : ℕ) → n ≡ length (rewriting b t) → room < n → Err (record { reason = NoRoom; place = n }) ≡ fits_in b t room
  unfolding fits_in
  fits_no n e h = simp (lt-leb (length (rewriting b t)) room (omega arith)) (λ i. Err (record { reason = NoRoom; place = e i }))

  -- and what its answer says
  pub fits_ok : (r : Result (Unit {0}) Refusal) → r ≡ fits_in b t room → (v : Unit {0}) → r ≡ Ok v → length (rewriting b t) ≤ room
  fits_ok r e v h = by_cases (dec_lt room (length (rewriting b t)))
      (λ g. let q = fits_no (length (rewriting b t)) refl g in absurd (cc (q, e, h)))
      (λ g. omega arith)

  pub fits_err : (r : Result (Unit {0}) Refusal) → r ≡ fits_in b t room → (x : Refusal) → r ≡ Err x
      → (x ≡ record { reason = NoRoom; place = length (rewriting b t) }) × (room < length (rewriting b t))
  fits_err r e x h = by_cases (dec_lt room (length (rewriting b t)))
      (λ g. let q = fits_no (length (rewriting b t)) refl g in (cc (q, e, h), g))
      (λ g. let q = fits_yes (omega arith) in absurd (cc (q, e, h)))

module _ (b : Rules) (t out org : List ℕ) where
  -- the two outcomes
  abbrev accepted : AfterTape
  accepted =
      tape_leaves (record { reply = 0; place = 0; length = length (rewriting b t); taken = length (taken b t) })
      (onto (symbols_of (rewriting b t)) out) (onto (origins_of (rewriting b t)) org)

  abbrev refused : AfterTape
  refused = tape_leaves (record { reply = 15; place = length (rewriting b t); length = 0; taken = 0 }) out org

  tape_accepted : length (rewriting b t) ≤ length out → length (rewriting b t) ≤ length org → tape_def b t out org ≡ accepted
  unfolding tape_def
  tape_accepted g h = simp (le-leb _ _ g, le-leb _ _ h)

  short_out : length out < length (rewriting b t) → tape_def b t out org ≡ refused
  unfolding tape_def
  short_out h = simp (lt-leb _ _ h)

  short_origins : length org < length (rewriting b t) → tape_def b t out org ≡ refused
  unfolding tape_def
  short_origins h = simp (lt-leb _ _ h, B.and-false)

  -- as the code answers
  pub tape_done : (s : Size) (out' org' : List ℕ) → Sized b t s → length (rewriting b t) ≤ min (length out) (length org)
      → out' ≡ onto (symbols_of (rewriting b t)) out → org' ≡ onto (origins_of (rewriting b t)) org
      → tape_leaves (rewritten (Ok s)) out' org' ≡ tape_def b t out org
  tape_done s out' org' z h e f =
      (λ x. tape_leaves (record { reply = 0; place = 0; length = z.lens x; taken = z.many x }) (e x) (f x))
      ∙ sym (tape_accepted (omega arith) (omega arith))

  pub tape_no_room : (x : Refusal) → (x ≡ record { reason = NoRoom; place = length (rewriting b t) }) × (min (length out) (length org) < length (rewriting b t))
      → tape_leaves (rewritten (Err x)) out org ≡ tape_def b t out org
  tape_no_room x z =
      (λ i. tape_leaves (rewritten (Err (z.0 i))) out org)
      ∙ sym (by_cases (dec_lt (length out) (length (rewriting b t))) short_out (λ g. short_origins (omega (arith, z.1))))
