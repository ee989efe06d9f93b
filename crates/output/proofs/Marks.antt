-- Marks in both outputs: none, some after others, and a word whose last origin is put in after the others. Assumes nothing.
use Prim.Native.Nat.{ℕ, suc, ◌+◌, ◌-◌, ◌≤◌, ◌<◌}
use mathlib.Core.Path.{◌≡◌, refl, subst, sym, ap, ap₂, ◌∙◌}
use mathlib.Core.List.{List, [], ◌∷◌, ◌++◌}
use native.Mathlib.Omega.{arith}
use native.Mathlib.Numerals.{add-one}
use lib.Seq.{take-suc, take_all, length-take-le}
use Rattle.std.specs.Borrow.{MutBor}
use lib.ListN.{length, get_or, take, set, length-append, replicate, replicate-append-replicate, length-replicate}
use Rattle.stretches.specs.Output.{Mark, marks, last_position, word_marks, symbols_of, origins_of}
use Rattle.stretches.specs.Lists.{put}
use Rattle.output.specs.Passes.{MarksFit, MarksPut}
use Rattle.output.specs.declared.words.Outputs.{Outputs}
use Rattle.stretches.proofs.Counts.{symbols_length, origins_length}
use Rattle.stretches.proofs.WordMarks.{marks_length, marks_symbols, marks_origins, marks_own, symbols_append, origins_append}
use Rattle.stretches.proofs.Front.{put_nil, put_both, put_last, length_put}

pub put_nothing : (ms : List Mark) (o : Outputs) → ms ≡ [] → MarksPut ms o o
put_nothing ms o e = rw e (record {
  next = omega arith;
  outs = put_nil o.out.now o.at;
  orgs = put_nil o.origins.now o.at;
  same_out = refl;
  same_origins = refl;
})

-- the buffers keep their lengths
module _ (ms : List Mark) (o o' : Outputs) (fit : MarksFit ms o) (p : MarksPut ms o o') where
  pub out_length : length o'.out.now ≡ length o.out.now
  out_length = ap length p.outs ∙ length_put o.out.now o.at (symbols_of ms) (omega (arith, fit.outs, symbols_length ms))

  pub org_length : length o'.origins.now ≡ length o.origins.now
  org_length = ap length p.orgs ∙ length_put o.origins.now o.at (origins_of ms) (omega (arith, fit.orgs, origins_length ms))

-- some marks, then others
module _ (w k : List Mark) (o : Outputs) (room : MarksFit (w ++ k) o) where
  pub fit_first : MarksFit w o
  fit_first = record { outs = omega (arith, room.outs, length-append w k); orgs = omega (arith, room.orgs, length-append w k) }

  module _ (o₁ : Outputs) (one : MarksPut w o o₁) where
    pub fit_then : MarksFit k o₁
    fit_then =
        let n = length-append w k in
        record {
          outs = omega (arith, room.outs, n, one.next, out_length w o o₁ fit_first one);
          orgs = omega (arith, room.orgs, n, one.next, org_length w o o₁ fit_first one);
        }

    pub put_then : (o₂ : Outputs) → MarksPut k o₁ o₂ → MarksPut (w ++ k) o o₂
    put_then o₂ two = record {
      next = omega (arith, one.next, two.next, length-append w k);
      outs =
          two.outs ∙ (λ x. put (one.outs x) (after (symbols_of w) (symbols_length w) x) (symbols_of k))
          ∙ put_both o.out.now o.at (symbols_of w) (symbols_of k) (fits o.out.now (symbols_of w) (symbols_of k) room.outs (symbols_length w) (symbols_length k))
          ∙ ap (put o.out.now o.at) (sym (symbols_append w k));
      orgs =
          two.orgs ∙ (λ x. put (one.orgs x) (after (origins_of w) (origins_length w) x) (origins_of k))
          ∙ put_both o.origins.now o.at (origins_of w) (origins_of k) (fits o.origins.now (origins_of w) (origins_of k) room.orgs (origins_length w) (origins_length k))
          ∙ ap (put o.origins.now o.at) (sym (origins_append w k));
      same_out = two.same_out ∙ one.same_out;
      same_origins = two.same_origins ∙ one.same_origins;
    }
      where
        after : (v : List ℕ) → length v ≡ length w → o₁.at ≡ o.at + length v
        after v e = one.next ∙ ap (λ (n : ℕ). o.at + n) (sym e)

        fits : (l v u : List ℕ) → o.at + length (w ++ k) ≤ length l → length v ≡ length w → length u ≡ length k → o.at + length (v ++ u) ≤ length l
        fits l v u h e f = omega (arith, h, e, f, length-append w k, length-append v u)

-- ---- a word

marks_append : (u v : List ℕ) (i : ℕ) → marks (u ++ v) i ≡ marks u i ++ marks v i
marks_append [] v i = refl
marks_append (x ∷ u) v i = ap (λ (ms : List Mark). record { symbol = x; origin = i } ∷ ms) (marks_append u v i)

marks_many : (w : List ℕ) (i : ℕ) → length (marks w i) ≡ length w
marks_many w i = ap length (sym (marks_own w i)) ∙ marks_length w i i

-- its first k symbols are written, each with the start
module _ (w : List ℕ) (i : ℕ) (o₀ o : Outputs) (k : ℕ) (was : MarksPut (marks (take k w) i) o₀ o) where
  module _ (room : MarksFit (marks w i) o₀) (inside : k < length w) where
    abbrev next : List ℕ
    next = get_or w k 0 ∷ []

    more : marks (take (k + 1) w) i ≡ marks (take k w) i ++ marks next i
    more = rw (add-one, take-suc w k 0 inside) (marks_append (take k w) next i)

    fits : MarksFit (marks (take k w) i ++ marks next i) o₀
    fits =
        let n = ap length (sym more) ∙ marks_many (take (k + 1) w) i in
        let l = length-take-le (k + 1) w (omega arith) in
        let m = marks_many w i in
        record { outs = omega (arith, n, l, m, room.outs); orgs = omega (arith, n, l, m, room.orgs) }

    pub next_fits : (o.at < length o.out.now) × (o.at < length o.origins.now)
    next_fits = let f = fit_then (marks (take k w) i) (marks next i) o₀ fits o was in (omega (arith, f.outs), omega (arith, f.orgs))

    pub next_put : (o' : Outputs) → MarksPut (marks next i) o o' → MarksPut (marks (take (k + 1) w) i) o₀ o'
    next_put o' p = rw more (put_then (marks (take k w) i) (marks next i) o₀ fits o was o' p)

  -- all of them are
  pub all_put : length w ≤ k → MarksPut (marks w i) o₀ o
  all_put h = subst (λ (v : List ℕ). MarksPut (marks v i) o₀ o) (take_all k w h) was

-- room for a word is room for its symbols
pub word_room : (w : List ℕ) (i j : ℕ) (o : Outputs) → MarksFit (word_marks w i j) o → MarksFit (marks w i) o
word_room w i j o f =
    let n = marks_length w i j in
    let m = marks_many w i in
    record { outs = omega (arith, n, m, f.outs); orgs = omega (arith, n, m, f.orgs) }

-- of one symbol, or none, that is all
pub word_short : (w : List ℕ) (i j : ℕ) (o o' : Outputs) → length w ≤ 1 → MarksPut (marks w i) o o' → MarksPut (word_marks w i j) o o'
word_short [] i j o o' h p = p
word_short (x ∷ []) i j o o' h p = p
word_short (x ∷ y ∷ w) i j o o' h p = absurd (omega arith)

-- of two or more, the last one's origin
last_is : (w : List ℕ) (i j at : ℕ) (org : List ℕ) → 1 < length w → at + length w ≤ length org
    → set (put org at (origins_of (marks w i))) (at + length w - 1) (last_position i j) ≡ put org at (origins_of (word_marks w i j))
last_is [] i j at org g h = absurd (omega arith)
last_is (x ∷ []) i j at org g h = absurd (omega arith)
last_is (x ∷ y ∷ w) i j at org g h =
    let n = length (y ∷ w) in
    let others = replicate n i in
    let own : origins_of (marks (x ∷ y ∷ w) i) ≡ others ++ (i ∷ []) =
    starts (x ∷ y ∷ w) ∙ sym (replicate-append-replicate n 1 i ∙ ap (λ (m : ℕ). replicate m i) (add-one n)) in
    let p : at + suc n - 1 ≡ at + length others = omega (arith, length-replicate n i) in
    ap₂ (λ (v : List ℕ) (k : ℕ). set (put org at v) k (last_position i j)) own p
    ∙ put_last org at others i (last_position i j) (omega arith)
    ∙ ap (put org at) (sym (marks_origins (x ∷ y ∷ w) i j))
  where
    starts : (v : List ℕ) → origins_of (marks v i) ≡ replicate (length v) i
    starts [] = refl
    starts (z ∷ v) = ap (λ (l : List ℕ). i ∷ l) (starts v)

module _ (w : List ℕ) (i j : ℕ) (o o' : Outputs) (room : MarksFit (marks w i) o) (p : MarksPut (marks w i) o o') where
  place : o'.at - 1 ≡ o.at + length w - 1
  place = omega (arith, p.next, marks_many w i)

  pub last_bound : 0 < length w → o'.at - 1 < length o'.origins.now
  last_bound h = omega (arith, p.next, marks_many w i, room.orgs, org_length (marks w i) o o' room p)

  pub word_long : 1 < length w → (org : MutBor (List ℕ)) → org.ghost_name ≡ o'.origins.ghost_name → (last : ℕ) → last ≡ last_position i j
      → org.now ≡ set o'.origins.now (o'.at - 1) last → MarksPut (word_marks w i j) o (record { out = o'.out; origins = org; at = o'.at })
  word_long h org same last e q = record {
    next = omega (arith, p.next, marks_many w i, marks_length w i j);
    outs = p.outs ∙ ap (put o.out.now o.at) (ap symbols_of (sym (marks_own w i)) ∙ marks_symbols w i i ∙ sym (marks_symbols w i j));
    orgs =
        q ∙ (λ z. set (p.orgs z) (place z) (e z)) ∙ last_is w i j o.at o.origins.now h (omega (arith, marks_many w i, room.orgs));
    same_out = p.same_out;
    same_origins = same ∙ p.same_origins;
  }
