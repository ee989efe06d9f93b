-- After REWRITE, whatever was lent and whatever the answer, the origins that it counts never fall, and each is a position of the tape, or its end where
-- a word is put in; so with a clock that never falls neither do the times that are printed. Assumes nothing.
use Prim.Native.Nat.{ℕ, ◌≤◌, ◌<◌, zero-le}
use mathlib.Core.List.{List}
use mathlib.Core.Path.{◌≡◌, sym, ap, subst, ◌∙◌}
use mathlib.Core.Logic.{◌⊎◌, ⊎_elim}
use native.Mathlib.Omega.{arith}
use lib.Dec.{eqb}
use lib.ListN.{length, take, drop, get_or, length-take}
use lib.Seq.{get_or-take, take-append-le, take-take}
use Rattle.book.specs.Language.{rules_in}
use Rattle.stretches.specs.Output.{rewriting, origins_of}
use Rattle.stretches.specs.Sentences.{Takes, NeverFalls}
use Rattle.rewriter.specs.Replies.{ready_def, AfterRewrite, rewrite_def}
use Rattle.stretches.proofs.Lists.{by_test}
use Rattle.stretches.proofs.Counts.{origins_length}
use Rattle.stretches.proofs.Rising.{falls_take, origin_in, rewriting_rises, origin_within}
use Rattle.output.proofs.Tapes.{tape_counts}
use Rattle.rewriter.proofs.Callers.{rewrite_origins, rewrite_fits_origins}
use Rattle.rewriter.proofs.Standing.{rewrite_front_origins}

module _ (book tape rows sets scratch out origins : List ℕ) where
  abbrev after : AfterRewrite
  after = rewrite_def book tape rows sets scratch out origins

  abbrev many : ℕ
  many = after.answer.length

  abbrev all : List ℕ
  all = origins_of (rewriting (rules_in book) tape)

  counted : many ≤ length all
  unfolding rewrite_def
  counted =
      by_test (λ (x : AfterRewrite). x.answer.length ≤ length all) (eqb (ready_def book tape rows sets scratch).answer.reply 0) _ _
      (λ e. omega (arith, tape_counts (rules_in book) tape out origins, origins_length (rewriting (rules_in book) tape))) (λ e. zero-le)

  fronts : take many after.origins ≡ take many all
  fronts =
      ap (take many) (rewrite_front_origins book tape rows sets scratch out origins)
      ∙ take-append-le many (take many all) (drop many origins) (omega (arith, length-take many all, counted))
      ∙ take-take many many all (omega arith)

  pub times_rise : NeverFalls (take many after.origins)
  times_rise = subst NeverFalls (sym fronts) (falls_take many all (rewriting_rises (rules_in book) tape))

  pub times_within : (k : ℕ) → k < many
      → (get_or after.origins k 0 < length tape)
      ⊎ ((get_or after.origins k 0 ≡ length tape) × Takes (rules_in book) tape (length tape) (length tape))
  times_within k h =
      let m = origin_in (rewriting (rules_in book) tape) k (omega (arith, counted, origins_length (rewriting (rules_in book) tape))) in
      let q : m.0.origin ≡ get_or after.origins k 0 =
      m.2 ∙ sym (sym (get_or-take many after.origins k 0 h) ∙ ap (λ (l : List ℕ). get_or l k 0) fronts ∙ get_or-take many all k 0 h) in
      subst (λ (o : ℕ). (o < length tape) ⊎ ((o ≡ length tape) × Takes (rules_in book) tape (length tape) (length tape))) q
      (origin_within (rules_in book) tape m.0 m.1)

  times_most : (k : ℕ) → k < many → get_or after.origins k 0 ≤ length tape
  times_most k h = ⊎_elim (λ l. omega arith) (λ e. omega (arith, e.0)) (times_within k h)

  pub times_print : (clock : List ℕ) → NeverFalls clock → length tape < length clock → (j k : ℕ) → j ≤ k → k < many
      → get_or clock (get_or after.origins j 0) 0 ≤ get_or clock (get_or after.origins k 0) 0
  times_print clock f h j k p q =
      let room = rewrite_fits_origins book tape rows sets scratch out origins in
      let same = rewrite_origins book tape rows sets scratch out origins in
      let r = times_rise j k p (omega (arith, q, room, same, length-take many after.origins)) in
      let a = get_or-take many after.origins j 0 (omega arith) in
      let b = get_or-take many after.origins k 0 q in
      f (get_or after.origins j 0) (get_or after.origins k 0) (omega (arith, r, a, b)) (omega (arith, times_most k q, h))
