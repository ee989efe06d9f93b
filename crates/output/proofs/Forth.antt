-- The writing pass: what stands in front of `at` in both outputs, followed by what is still to come, is the whole. Assumes nothing.
use Prim.Native.Nat.{ℕ, suc, ◌+◌, ◌≤◌, ◌<◌}
use native.Mathlib.Omega.{arith}
use native.Mathlib.Numerals.{add-one}
use mathlib.Core.Path.{◌≡◌, refl, sym, ◌∙◌, ap, subst}
use mathlib.Core.List.{List, [], ◌++◌, append-nil}
use lib.ListN.{length, get_or, length-append}
use Rattle.sets.specs.Tables.{left_entry}
use Rattle.stretches.specs.Output.{Mark, rewriting, symbols_of, origins_of}
use Rattle.stretches.specs.Buffers.{onto}
use Rattle.stretches.specs.Lists.{put}
use Rattle.stretches.specs.Position.{word_here, marks_at}
use Rattle.stretches.specs.declared.pass.Pass.{Pass}
use Rattle.output.specs.Passes.{by, along, MarksFit, MarksPut, Sized, Moved}
use Rattle.output.specs.declared.words.Outputs.{Outputs}
use Rattle.output.specs.declared.passes.Spot.{Spot}
use Rattle.stretches.proofs.Counts.{symbols_length, origins_length}
use Rattle.stretches.proofs.WordMarks.{symbols_append, origins_append}
use Rattle.stretches.proofs.Front.{Front, front_start, front_put, front_end}
use Rattle.stretches.proofs.Along.{marks_step, marks_all, marks_last}
use Rattle.output.proofs.Measured.{coming, Counted, counted_start, counted_turn, counted_past, counted_end, counted_taken}

-- the whole, in both outputs
abbrev all_symbols : Pass → List ℕ
all_symbols p = symbols_of (rewriting (by p) (along p))

abbrev all_origins : Pass → List ℕ
all_origins p = origins_of (rewriting (by p) (along p))

pub record Forth (p : Pass) (o₀ o : Outputs) (s : Spot) (i : ℕ) : Type 0 where
  pub counted : Counted p o.at s i
  pub outs : Front o₀.out.now o.out.now o.at (symbols_of (coming p i)) (all_symbols p)
  pub orgs : Front o₀.origins.now o.origins.now o.at (origins_of (coming p i)) (all_origins p)
  pub same_out : o.out.ghost_name ≡ o₀.out.ghost_name
  pub same_origins : o.origins.ghost_name ≡ o₀.origins.ghost_name

module _ (p : Pass) (o₀ : Outputs) where
  pub forth_start : o₀.at ≡ 0 → Forth p o₀ o₀ (record { left = 0; end = 0; taken = 0 }) 0
  forth_start z =
      let e = marks_all (by p) (along p) in
      record {
        counted = rw z (counted_start p);
        outs = rw z (subst (λ (m : List Mark). Front o₀.out.now o₀.out.now 0 (symbols_of m) (all_symbols p)) e (front_start o₀.out.now (all_symbols p)));
        orgs = rw z (subst (λ (m : List Mark). Front o₀.origins.now o₀.origins.now 0 (origins_of m) (all_origins p)) e (front_start o₀.origins.now (all_origins p)));
        same_out = refl;
        same_origins = refl;
      }

  module _ (o : Outputs) (s : Spot) (i : ℕ) (was : Forth p o₀ o s i)
      (room : (length (rewriting (by p) (along p)) ≤ length o₀.out.now) × (length (rewriting (by p) (along p)) ≤ length o₀.origins.now)) where
    -- the marks w come next, and then f
    module _ (w f : List Mark) (cut : coming p i ≡ w ++ f) where
      marks_fit : MarksFit w o
      marks_fit =
          let n = was.counted.lens in
          let m = ap length cut ∙ length-append w f in
          record { outs = omega (arith, n, m, was.outs.same, room.0); orgs = omega (arith, n, m, was.orgs.same, room.1) }

      module _ (o' : Outputs) (did : MarksPut w o o') where
        -- one buffer, with what of a mark it holds
        put_now : (of : List Mark → List ℕ) → ((a b : List Mark) → of (a ++ b) ≡ of a ++ of b) → (l₀ l whole : List ℕ) → length (of w) ≡ length w
            → o.at + length w ≤ length l → Front l₀ l o.at (of (coming p i)) whole → Front l₀ (put l o.at (of w)) o'.at (of f) whole
        put_now of append l₀ l whole same fits front =
            let split : of (coming p i) ≡ of w ++ of f = ap of cut ∙ append w f in
            let next : o.at + length (of w) ≡ o'.at = ap (λ (n : ℕ). o.at + n) same ∙ sym did.next in
            subst (λ (n : ℕ). Front l₀ (put l o.at (of w)) n (of f) whole) next
            (front_put l₀ l o.at (of w) (of f) whole (omega (arith, fits, same)) (subst (λ (x : List ℕ). Front l₀ l o.at x whole) split front))

        outs_now : Front o₀.out.now o'.out.now o'.at (symbols_of f) (all_symbols p)
        outs_now = rw did.outs (put_now symbols_of symbols_append o₀.out.now o.out.now (all_symbols p) (symbols_length w) marks_fit.outs was.outs)

        orgs_now : Front o₀.origins.now o'.origins.now o'.at (origins_of f) (all_origins p)
        orgs_now = rw did.orgs (put_now origins_of origins_append o₀.origins.now o.origins.now (all_origins p) (origins_length w) marks_fit.orgs was.orgs)

    -- a position before the tape's end
    module _ (inside : i < length (along p)) where
      abbrev marks : List Mark
      marks = marks_at (by p) (along p) i s.end

      step : coming p i ≡ marks ++ coming p (suc i)
      step = marks_step (by p) (along p) i s.end (omega arith) was.counted.here

      pub forth_fits : MarksFit marks o
      forth_fits = marks_fit marks (coming p (suc i)) step

      pub forth_turn : (o' : Outputs) (s' : Spot) → MarksPut marks o o' → s'.left ≡ left_entry p.rows.now s.left (get_or (along p) i 0) → Moved p i s.end s s'
          → Forth p o₀ o' s' (i + 1)
      forth_turn o' s' did l m = record {
        counted = counted_turn p o.at s i was.counted inside o'.at did.next s' l m;
        outs = rw add-one (outs_now marks (coming p (suc i)) step o' did);
        orgs = rw add-one (orgs_now marks (coming p (suc i)) step o' did);
        same_out = did.same_out ∙ was.same_out;
        same_origins = did.same_origins ∙ was.same_origins;
      }

    -- the tape's end, where a word may be put in
    module _ (past : length (along p) ≤ i) where
      abbrev word : List Mark
      word = word_here (by p) (along p) (length (along p))

      last : i ≡ length (along p)
      last = let w = was.counted.within in omega arith

      rest : coming p i ≡ word ++ []
      rest = rw last (marks_last (by p) (along p) (length (along p)) s.end refl (counted_past p o.at s i was.counted past).here ∙ sym (append-nil word))

      pub forth_last : MarksFit word o
      forth_last = marks_fit word [] rest

      module _ (o' : Outputs) (did : MarksPut word o o') where
        pub forth_sized : (s' : Spot) → Moved p (length (along p)) (length (along p)) s s' → Sized (by p) (along p) (record { length = o'.at; taken = s'.taken })
        forth_sized s' m = record {
          lens = did.next ∙ counted_end p o.at s i was.counted past (length word) refl;
          many = counted_taken p o.at s i was.counted past s' m;
        }

        pub forth_outs : o'.out.now ≡ onto (all_symbols p) o₀.out.now
        forth_outs = front_end o₀.out.now o'.out.now o'.at (all_symbols p) (outs_now word [] rest o' did)

        pub forth_orgs : o'.origins.now ≡ onto (all_origins p) o₀.origins.now
        forth_orgs = front_end o₀.origins.now o'.origins.now o'.at (all_origins p) (orgs_now word [] rest o' did)

        -- and in the buffers that were lent
        pub forth_same : (o'.out.ghost_name ≡ o₀.out.ghost_name) × (o'.origins.ghost_name ≡ o₀.origins.ghost_name)
        forth_same = (did.same_out ∙ was.same_out, did.same_origins ∙ was.same_origins)
