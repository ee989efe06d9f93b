-- One tape after a build, for whoever calls: what is written is within the room, and each buffer keeps its length. Assumes nothing.
use Prim.Native.Nat.{ℕ, ◌≤◌, zero-le}
use mathlib.Core.Path.{◌≡◌, refl, sym, ap, ap₂, ◌∙◌}
use mathlib.Core.List.{List, ◌++◌}
use mathlib.Core.Bool.{Bool, true, ◌&&◌}
use native.Mathlib.Omega.{arith}
use lib.Dec.{leb}
use lib.ListN.{length, take, drop}
use lib.Seq.{take-length}
use borrow.Author.Tests.{leb-true}
use Rattle.book.specs.Language.{Rules}
use Rattle.book.proofs.Laws.{and_left, and_right}
use Rattle.stretches.specs.Buffers.{onto}
use Rattle.stretches.specs.Output.{rewriting, symbols_of, origins_of}
use Rattle.output.specs.Tape.{AfterTape, tape_def}
use Rattle.stretches.proofs.Counts.{symbols_length, origins_length}
use Rattle.stretches.proofs.Lists.{by_test}
use Rattle.stretches.proofs.Onto.{onto_length}

onto_front : (v l : List ℕ) (n : ℕ) → length v ≡ n → onto v l ≡ take n v ++ drop n l
onto_front v l n e = ap₂ ◌++◌ (sym (take-length v) ∙ ap (λ (k : ℕ). take k v) e) (ap (λ (k : ℕ). drop k l) e)

module _ (b : Rules) (tape out origins : List ℕ) where
  abbrev needed : ℕ
  needed = length (rewriting b tape)

  abbrev room : Bool
  room = leb needed (length out) && leb needed (length origins)

  in_out : room ≡ true → needed ≤ length out
  in_out e = leb-true needed (length out) (and_left (leb needed (length out)) (leb needed (length origins)) e)

  in_origins : room ≡ true → needed ≤ length origins
  in_origins e = leb-true needed (length origins) (and_right (leb needed (length out)) (leb needed (length origins)) e)

  -- the written length is within both rooms
  pub tape_fits_out : (tape_def b tape out origins).answer.length ≤ length out
  unfolding tape_def
  tape_fits_out = by_test (λ (x : AfterTape). x.answer.length ≤ length out) room _ _ in_out (λ e. zero-le)

  pub tape_fits_origins : (tape_def b tape out origins).answer.length ≤ length origins
  unfolding tape_def
  tape_fits_origins = by_test (λ (x : AfterTape). x.answer.length ≤ length origins) room _ _ in_origins (λ e. zero-le)

  -- and no more than the rewriting's
  pub tape_counts : (tape_def b tape out origins).answer.length ≤ needed
  unfolding tape_def
  tape_counts = by_test (λ (x : AfterTape). x.answer.length ≤ needed) room _ _ (λ e. omega arith) (λ e. zero-le)

  -- the buffers keep their lengths
  pub tape_out : length (tape_def b tape out origins).out ≡ length out
  unfolding tape_def
  tape_out =
      by_test (λ (x : AfterTape). length x.out ≡ length out) room _ _
      (λ e. onto_length (symbols_of (rewriting b tape)) out (omega (arith, in_out e, symbols_length (rewriting b tape)))) (λ e. refl)

  pub tape_origins : length (tape_def b tape out origins).origins ≡ length origins
  unfolding tape_def
  tape_origins =
      by_test (λ (x : AfterTape). length x.origins ≡ length origins) room _ _
      (λ e. onto_length (origins_of (rewriting b tape)) origins (omega (arith, in_origins e, origins_length (rewriting b tape)))) (λ e. refl)

  -- what is written is the front of the rewriting, as many symbols as the answer says
  pub tape_front : (tape_def b tape out origins).out
      ≡ take (tape_def b tape out origins).answer.length (symbols_of (rewriting b tape)) ++ drop (tape_def b tape out origins).answer.length out
  unfolding tape_def
  tape_front =
      by_test (λ (x : AfterTape). x.out ≡ take x.answer.length (symbols_of (rewriting b tape)) ++ drop x.answer.length out) room _ _
      (λ e. onto_front (symbols_of (rewriting b tape)) out needed (symbols_length (rewriting b tape))) (λ e. refl)

  pub tape_front_origins : (tape_def b tape out origins).origins
      ≡ take (tape_def b tape out origins).answer.length (origins_of (rewriting b tape)) ++ drop (tape_def b tape out origins).answer.length origins
  unfolding tape_def
  tape_front_origins =
      by_test (λ (x : AfterTape). x.origins ≡ take x.answer.length (origins_of (rewriting b tape)) ++ drop x.answer.length origins) room _ _
      (λ e. onto_front (origins_of (rewriting b tape)) origins needed (origins_length (rewriting b tape))) (λ e. refl)
