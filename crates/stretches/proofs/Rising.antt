-- Origins never fall along the output: between the stretches the positions count up, and a replacement goes from its stretch's start to its last
-- position. And each is a position of the tape, or its end. Assumes nothing.
use Prim.Native.Nat.{ℕ, zero, suc, ◌+◌, ◌-◌, ◌≤◌, ◌<◌}
use mathlib.Core.List.{List, [], ◌∷◌, ◌++◌, Memᴰ}
use mathlib.Core.Path.{◌≡◌, refl, sym, subst, subst₂}
use mathlib.Core.Logic.{◌⊎◌, inl, inr, by_cases}
use native.Mathlib.Omega.{arith}
use native.Mathlib.Decide.{dec_lt}
use lib.ListN.{length, get_or, take, replicate, length-take}
use lib.Seq.{get_or-take}
use Rattle.book.specs.Language.{Rules, up_from}
use Rattle.stretches.specs.Candidates.{rule_of}
use Rattle.stretches.specs.Output.{Mark, last_position, rule_word, rewriting, origins_of}
use Rattle.stretches.specs.Account.{Line, account}
use Rattle.stretches.specs.Sentences.{Takes, taken_lines, Chain, word_origins, origins_from, Traced, kept, replaced, NeverFalls}
use Rattle.stretches.proofs.WordMarks.{spelled_most}
use Rattle.stretches.proofs.Stretches.{taken_walked}
use Rattle.stretches.proofs.Lengths.{taken_chain}
use Rattle.stretches.proofs.Origins.{rewriting_origins, rewriting_traced}

-- the list goes from a to e and never down
abbrev Rises : ℕ → ℕ → List ℕ → Type 0
Rises a e [] = a ≤ e
Rises a e (x ∷ xs) = (a ≤ x) × Rises x e xs

rises_from : (a b e : ℕ) (xs : List ℕ) → a ≤ b → Rises b e xs → Rises a e xs
rises_from a b e [] h r = omega arith
rises_from a b e (x ∷ xs) h r = let l = r.0 in (omega arith, r.1)

rises_append : (a e f : ℕ) (xs ys : List ℕ) → Rises a e xs → Rises e f ys → Rises a f (xs ++ ys)
rises_append a e f [] ys r q = rises_from a e f ys r q
rises_append a e f (x ∷ xs) ys r q = (r.0, rises_append x e f xs ys r.1 q)

rises_up : (a n e : ℕ) → a + n ≡ e → Rises a e (up_from a n)
rises_up a zero e h = omega arith
rises_up a (suc n) e h = (omega arith, rises_from a (suc a) e (up_from (suc a) n) (omega arith) (rises_up (suc a) n e (omega arith)))

rises_same : (i n : ℕ) → Rises i i (replicate n i)
rises_same i zero = omega arith
rises_same i (suc n) = (omega arith, rises_same i n)

rises_word : (n i j : ℕ) → i ≤ j → Rises i j (word_origins n i j)
rises_word zero i j h = h
rises_word (suc zero) i j h = (omega arith, h)
rises_word (suc (suc n)) i j h = rises_append i i j (replicate (suc n) i) (last_position i j ∷ []) (rises_same i (suc n)) (omega arith, omega arith)

rises_lines : (b : Rules) (t : List ℕ) (a : ℕ) (ls : List Line) → a ≤ length t → Chain t a ls → Rises a (length t) (origins_from b t a ls)
rises_lines b t a [] h c = rises_up a (length t - a) (length t) (omega arith)
rises_lines b t a (l ∷ ls) h c =
    let p = c.0 in
    let n = length (rule_word b l.rule) in
    rises_append a l.start (length t) (up_from a (l.start - a)) (word_origins n l.start l.end ++ origins_from b t l.end ls)
    (rises_up a (l.start - a) l.start (omega arith))
    (rises_append l.start l.end (length t) (word_origins n l.start l.end) (origins_from b t l.end ls)
    (rises_word n l.start l.end c.1) (rises_lines b t l.end ls c.2 c.3))

rises_low : (a e : ℕ) (xs : List ℕ) → Rises a e xs → (k : ℕ) → k < length xs → a ≤ get_or xs k 0
rises_low a e [] r k h = absurd (omega arith)
rises_low a e (x ∷ xs) r zero h = r.0
rises_low a e (x ∷ xs) r (suc k) h = let l = r.0 in let m = rises_low x e xs r.1 k (omega arith) in omega arith

never_falls : (a e : ℕ) (xs : List ℕ) → Rises a e xs → NeverFalls xs
never_falls a e [] r j k h g = absurd (omega arith)
never_falls a e (x ∷ xs) r zero zero h g = omega arith
never_falls a e (x ∷ xs) r zero (suc k) h g = rises_low x e xs r.1 k (omega arith)
never_falls a e (x ∷ xs) r (suc j) zero h g = absurd (omega arith)
never_falls a e (x ∷ xs) r (suc j) (suc k) h g = never_falls x e xs r.1 j k (omega arith) (omega arith)

-- the front of such a list is one too
pub falls_take : (n : ℕ) (xs : List ℕ) → NeverFalls xs → NeverFalls (take n xs)
falls_take n xs f j k h g =
    let m = length-take n xs in
    let p : get_or (take n xs) j 0 ≡ get_or xs j 0 = get_or-take n xs j 0 (omega arith) in
    let q : get_or (take n xs) k 0 ≡ get_or xs k 0 = get_or-take n xs k 0 (omega arith) in
    let r = f j k h (omega arith) in
    omega arith

-- an origin stands in a list with its symbol
pub origin_in : (ms : List Mark) (k : ℕ) → k < length ms → (m : Mark) × Memᴰ m ms × (m.origin ≡ get_or (origins_of ms) k 0)
origin_in [] k h = absurd (omega arith)
origin_in (m ∷ ms) zero h = (m, Memᴰ.head refl, refl)
origin_in (m ∷ ms) (suc k) h = let r = origin_in ms k (omega arith) in (r.0, Memᴰ.tail r.1, r.2)

module _ (b : Rules) (t : List ℕ) where
  pub rewriting_rises : NeverFalls (origins_of (rewriting b t))
  rewriting_rises =
      never_falls 0 (length t) (origins_of (rewriting b t))
      (subst (Rises 0 (length t)) (sym (rewriting_origins b t))
      (rises_lines b t 0 (taken_lines (account b t)) (omega arith) (taken_chain b t)))

  -- each origin is a position of the tape; or the tape's end, where a word is put in
  pub origin_within : (m : Mark) → Memᴰ m (rewriting b t) → (m.origin < length t) ⊎ ((m.origin ≡ length t) × Takes b t (length t) (length t))
  origin_within m z = by (rewriting_traced b t m z)
    where
      by : Traced b t m → (m.origin < length t) ⊎ ((m.origin ≡ length t) × Takes b t (length t) (length t))
      by (kept h c e) = inl h
      by (replaced i j k w s) =
          let c = ((taken_walked b t i j).0 w).some.cand in
          let p = spelled_most (rule_word b (rule_of b t i j)) i j m k s in
          let o = c.ordered in
          let n = c.inside in
          by_cases (dec_lt m.origin (length t)) inl
          (λ g. let f : i ≡ length t = omega arith in
          let e : j ≡ length t = omega arith in
          inr (omega arith, subst₂ (Takes b t) f e w))
