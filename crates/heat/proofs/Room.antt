-- The room: what a lane writes is within what is left of both outputs, and every buffer keeps its length; the code's two ways through a lane are
-- those of the definition. Assumes nothing.
use Prim.Native.Nat.{ℕ, ◌+◌, ◌-◌, ◌≤◌, ◌<◌}
use mathlib.Core.Path.{◌≡◌, ap, ◌∙◌}
use mathlib.Core.List.{List, ◌++◌, append-nil}
use native.Mathlib.Omega.{arith}
use lib.ListN.{length, take, drop, length-drop, length-take, length-append, drop_of_length-le}
use lib.Seq.{take_all}
use borrow.Rule.Slice.PartMut.{put_mid}
use borrow.Author.Tests.{lt-ltb, le-ltb}
use Rattle.rewriter.specs.Replies.{AfterRewrite, rewrite_leaves, rewrite_def}
use Rattle.rewriter.proofs.Callers.{rewrite_out, rewrite_origins, rewrite_fits_out, rewrite_fits_origins}
use Rattle.output.specs.declared.Rewritten.{Rewritten}
use Rattle.heat.specs.declared.Lane.{Lane}
use Rattle.heat.specs.Lanes.{tape_of, answered, Leaving, leaving, lane_leaves, inside, lane_def}

-- the room that is used is within both outputs
pub record Roomy (s : Leaving) : Type 0 where
  pub in_out : s.used ≤ length s.out
  pub in_origins : s.used ≤ length s.origins

-- the front that is kept, and what is written after it
joined : (u : ℕ) (l y : List ℕ) → u ≤ length l → length (take u l ++ y) ≡ u + length y
joined u l y h = length-append (take u l) y ∙ omega (arith, length-take u l)

-- the part to the end is the rest, and what comes back stands after the front
rest : (u : ℕ) (l : List ℕ) → take (length l - u) (drop u l) ≡ drop u l
rest u l = take_all (length l - u) (drop u l) (omega (arith, length-drop u l))

back : (u : ℕ) (l y : List ℕ) → put_mid u (length l - u) l y ≡ take u l ++ y
back u l y =
    ap (λ (z : List ℕ). take u l ++ (y ++ z)) (drop_of_length-le (drop u l) {i = length l - u} (omega (arith, length-drop u l)))
    ∙ ap (λ (z : List ℕ). take u l ++ z) (append-nil y)

module _ (book tapes rows sets : List ℕ) (l : Lane) (s : Leaving) where
  -- REWRITE of the lane's tape, with the room still left
  abbrev pub alone : AfterRewrite
  alone = rewrite_def book (tape_of tapes l) rows sets s.scratch (drop s.used s.out) (drop s.used s.origins)

  pub fits_out : s.used ≤ length s.out → s.used + alone.answer.length ≤ length s.out
  fits_out h = omega (
    arith,
    rewrite_fits_out book (tape_of tapes l) rows sets s.scratch (drop s.used s.out) (drop s.used s.origins),
    length-drop s.used s.out,
  )

  pub fits_origins : s.used ≤ length s.origins → s.used + alone.answer.length ≤ length s.origins
  fits_origins h = omega (
    arith,
    rewrite_fits_origins book (tape_of tapes l) rows sets s.scratch (drop s.used s.out) (drop s.used s.origins),
    length-drop s.used s.origins,
  )

  pub same_out : s.used ≤ length s.out → length (take s.used s.out ++ alone.out) ≡ length s.out
  same_out h = joined s.used s.out alone.out h
      ∙ omega (
        arith,
        rewrite_out book (tape_of tapes l) rows sets s.scratch (drop s.used s.out) (drop s.used s.origins),
        length-drop s.used
            s.out,
      )

  pub same_origins : s.used ≤ length s.origins → length (take s.used s.origins ++ alone.origins) ≡ length s.origins
  same_origins h = joined s.used s.origins alone.origins h
      ∙ omega (
        arith,
        rewrite_origins book (tape_of tapes l) rows sets s.scratch (drop s.used s.out) (drop s.used s.origins),
        length-drop
            s.used s.origins,
      )

  -- 17
  pub lane_outside : length tapes < l.start + l.length → (a : Lane) → a ≡ answered l 17 0 0 0 → lane_leaves a s ≡ lane_def book tapes rows sets l s
  unfolding lane_def
  lane_outside h a e = simp (lt-ltb _ _ h) (ap (λ (x : Lane). lane_leaves x s) e)

  -- what REWRITE is given, as the parts come out
  abbrev given : List ℕ → AfterRewrite
  given t = rewrite_def book t rows sets s.scratch
      (take (length s.out - s.used) (drop s.used s.out)) (take (length s.origins - s.used) (drop s.used s.origins))

  module _ (t : List ℕ) (own : t ≡ tape_of tapes l) (r : Rewritten) (X O G : List ℕ) (is : rewrite_leaves r rows sets X O G ≡ given t) where
    given_is : given t ≡ alone
    given_is = rw (own, rest s.used s.out, rest s.used s.origins)

    pub used_fits : s.used ≤ length s.out → s.used + r.length ≤ length s.out
    used_fits h = let k : r.length ≡ alone.answer.length = ap (λ (x : AfterRewrite). x.answer.length) (is ∙ given_is) in omega (arith, fits_out h)

    pub lane_inside : l.start + l.length ≤ length tapes → (a : Lane) → a ≡ answered l r.reply r.place r.length r.taken
        → lane_leaves a (leaving (s.used + a.out) X (put_mid s.used (length s.out - s.used) s.out O)
        (put_mid s.used (length s.origins - s.used) s.origins G)) ≡ lane_def book tapes rows sets l s
    unfolding lane_def
    lane_inside h a e =
        simp (le-ltb _ _ h, back)
        (ap (λ (x : Lane). lane_leaves x (leaving (s.used + x.out) X (take s.used s.out ++ O) (take s.used s.origins ++ G))) e
        ∙ ap (inside l s) (is ∙ given_is))
