-- What both passes count: the output's length so far and what is still to come make the whole; so do the stretches. Assumes nothing.
use Prim.Native.Nat.{ℕ, suc, ◌+◌, ◌≤◌, ◌<◌}
use native.Mathlib.Omega.{arith}
use native.Mathlib.Numerals.{add-one}
use mathlib.Core.Path.{◌≡◌, refl, ap, subst}
use mathlib.Core.List.{List}
use lib.ListN.{length, get_or, length-append}
use Rattle.book.specs.Format.{longest_word}
use Rattle.sets.specs.Tables.{left_entry}
use Rattle.stretches.specs.Candidates.{taken, taken_at}
use Rattle.stretches.specs.Output.{Mark, written_at, rewriting}
use Rattle.stretches.specs.Buffers.{longest_tape}
use Rattle.stretches.specs.Position.{word_here, marks_at, takes_at}
use Rattle.stretches.specs.declared.pass.Pass.{Pass}
use Rattle.output.specs.Passes.{by, along, most_output, Standing, Moved}
use Rattle.output.specs.declared.passes.Spot.{Spot}
use Rattle.stretches.proofs.Lefts.{LeftNumber, left_start, left_turn}
use Rattle.output.proofs.Limits.{output_fits, taken_most}
use Rattle.stretches.proofs.Along.{from, At, at_start, at_turn, marks_step, marks_all, marks_last, takes_step, takes_all, takes_last}

-- what is still to be written from i on, and to be taken
abbrev pub coming : Pass → ℕ → List Mark
coming p i = from (by p) (along p) (written_at (by p) (along p)) i

abbrev pub to_take : Pass → ℕ → ℕ
to_take p i = length (from (by p) (along p) taken_at i)

-- n symbols stand for the positions before i
pub record Counted (p : Pass) (n : ℕ) (s : Spot) (i : ℕ) : Type 0 where
  pub within : i ≤ length (along p)
  pub lens : n + length (coming p i) ≡ length (rewriting (by p) (along p))
  pub takes : s.taken + to_take p i ≡ length (taken (by p) (along p))
  pub here : At (by p) (along p) i s.end
  pub left : LeftNumber p.walk.outline.states.book.now (along p) p.walk.sets.now s.left i

module _ (p : Pass) where
  pub counted_start : Counted p 0 (record { left = 0; end = 0; taken = 0 }) 0
  counted_start = record {
    within = omega arith;
    lens = omega (arith, ap length (marks_all (by p) (along p)));
    takes = omega (arith, ap length (takes_all (by p) (along p)));
    here = at_start (by p) (along p);
    left = left_start _ _ _ _ _ p.ready;
  }

  module _ (n : ℕ) (s : Spot) (i : ℕ) (was : Counted p n s i) where
    pub counted_standing : Standing p i s
    counted_standing = record {
      below = was.left.below;
      is = was.left.is;
      few = omega (arith, was.takes, taken_most (by p) (along p), p.ready.tape_fits);
    }

    module _ (inside : i < length (along p)) (n' : ℕ) (next : n' ≡ n + length (marks_at (by p) (along p) i s.end)) where
      counted_now : n' + length (coming p (suc i)) ≡ length (rewriting (by p) (along p))
      counted_now =
          let q = ap length (marks_step (by p) (along p) i s.end (omega arith) was.here) in
          omega (arith, q, length-append (marks_at (by p) (along p) i s.end) (coming p (suc i)), next, was.lens)

      -- the length is not too great
      pub counted_fits : n' ≤ most_output longest_tape longest_word
      counted_fits = omega (arith, counted_now, output_fits p)

      pub counted_turn : (s' : Spot) → s'.left ≡ left_entry p.rows.now s.left (get_or (along p) i 0) → Moved p i s.end s s' → Counted p n' s' (i + 1)
      counted_turn s' l m =
          let q = ap length (takes_step (by p) (along p) i s.end (omega arith) was.here) in
          record {
            within = omega arith;
            lens = rw add-one counted_now;
            takes = rw add-one (omega (arith, q, length-append (takes_at (by p) (along p) i s.end) (from (by p) (along p) taken_at (suc i)), m.many, was.takes));
            here = rw (add-one, m.ends) (at_turn (by p) (along p) i s.end was.here);
            left = left_turn _ _ _ _ _ p.ready s.left i s'.left inside was.left l;
          }

    -- at the tape's end
    module _ (past : length (along p) ≤ i) where
      pub counted_past : Counted p n s (length (along p))
      counted_past =
          let w = was.within in
          let e : i ≡ length (along p) = omega arith in
          subst (λ (k : ℕ). Counted p n s k) e was

      pub counted_end : (m : ℕ) → m ≡ length (word_here (by p) (along p) (length (along p))) → n + m ≡ length (rewriting (by p) (along p))
      counted_end m e = omega (arith, ap length (marks_last (by p) (along p) (length (along p)) s.end refl counted_past.here), e, counted_past.lens)

      pub counted_taken : (s' : Spot) → Moved p (length (along p)) (length (along p)) s s' → s'.taken ≡ length (taken (by p) (along p))
      counted_taken s' m = omega (arith, m.many, ap length (takes_last (by p) (along p) (length (along p)) s.end refl counted_past.here), counted_past.takes)
