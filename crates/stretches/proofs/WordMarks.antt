-- The symbols and the origins of what is written; of a replacement its length, its symbols, and the origin of each. Assumes nothing.
use Prim.Native.Nat.{ℕ, suc, ◌+◌, ◌≤◌, ◌<◌}
use mathlib.Core.List.{List, [], ◌∷◌, ◌++◌, map, Memᴰ}
use mathlib.Core.Path.{◌≡◌, refl, ap, ap₂, ◌∙◌}
use mathlib.Core.Logic.{by_cases}
use mathlib.Core.Bool.{Bool, true, false, cond, ◌&&◌}
use native.Mathlib.Omega.{arith}
use native.Mathlib.Decide.{dec_lt}
use borrow.Author.Tests.{lt-ltb, le-ltb, eq-eqb, ne_eqb}
use lib.Dec.{eqb, ltb}
use lib.ListN.{length, get_or, replicate}
use Rattle.stretches.specs.Output.{Mark, marks, symbols_of, origins_of, last_position, word_origin, marks_from, word_marks}
use Rattle.stretches.specs.Sentences.{word_origins, Spelled}
use Rattle.stretches.specs.Races.{later}

pub origins_append : (xs ys : List Mark) → origins_of (xs ++ ys) ≡ origins_of xs ++ origins_of ys
origins_append [] ys = refl
origins_append (x ∷ xs) ys = ap (λ (l : List ℕ). x.origin ∷ l) (origins_append xs ys)

pub symbols_append : (xs ys : List Mark) → symbols_of (xs ++ ys) ≡ symbols_of xs ++ symbols_of ys
symbols_append [] ys = refl
symbols_append (x ∷ xs) ys = ap (λ (l : List ℕ). x.symbol ∷ l) (symbols_append xs ys)

-- "When a replacement has two or more symbols, the last one's origin is the last position of the stretch; the others keep the start"
origin_one : (n i j k : ℕ) → n ≤ 1 → word_origin n i j k ≡ i
origin_one n i j k h = simp (le-ltb 1 n h)

origin_last : (n i j k : ℕ) → 1 < n → suc k ≡ n → word_origin n i j k ≡ last_position i j
origin_last n i j k h e = simp (lt-ltb 1 n h, eq-eqb (suc k) n e)

origin_other : (n i j k : ℕ) → suc k < n → word_origin n i j k ≡ i
origin_other n i j k h = let q : suc k ≡ n → ⊥ = λ e. omega arith in simp (lt-ltb 1 n (omega arith), ne_eqb (suc k) n q)

module _ (n i j : ℕ) where
  from_length : (k : ℕ) (w : List ℕ) → length (marks_from n i j k w) ≡ length w
  from_length k [] = refl
  from_length k (x ∷ w) = ap suc (from_length (suc k) w)

  from_symbols : (k : ℕ) (w : List ℕ) → symbols_of (marks_from n i j k w) ≡ w
  from_symbols k [] = refl
  from_symbols k (x ∷ w) = ap (λ (l : List ℕ). x ∷ l) (from_symbols (suc k) w)

  -- the origins of all that follow symbol k, and its own, where they end the word
  from_origins : (k x : ℕ) (w : List ℕ) → 1 < n → k + suc (length w) ≡ n
      → origins_of (marks_from n i j k (x ∷ w)) ≡ replicate (length w) i ++ (last_position i j ∷ [])
  from_origins k x [] h e = ap (λ (o : ℕ). o ∷ []) (origin_last n i j k h (omega arith))
  from_origins k x (y ∷ w) h e =
      ap (λ (o : ℕ). o ∷ origins_of (marks_from n i j (suc k) (y ∷ w))) (origin_other n i j k (omega arith))
      ∙ ap (λ (l : List ℕ). i ∷ l) (from_origins (suc k) y w h (omega arith))

pub marks_length : (w : List ℕ) (i j : ℕ) → length (word_marks w i j) ≡ length w
marks_length w i j = from_length (length w) i j 0 w

pub marks_symbols : (w : List ℕ) (i j : ℕ) → symbols_of (word_marks w i j) ≡ w
marks_symbols w i j = from_symbols (length w) i j 0 w

pub marks_origins : (w : List ℕ) (i j : ℕ) → origins_of (word_marks w i j) ≡ word_origins (length w) i j
marks_origins [] i j = refl
marks_origins (x ∷ []) i j = refl
marks_origins (x ∷ y ∷ w) i j = from_origins (length (x ∷ y ∷ w)) i j 0 x (y ∷ w) (omega arith) (omega arith)

-- of an empty stretch each origin is its position
module _ (n i : ℕ) where
  own_origin : (k : ℕ) → word_origin n i i k ≡ i
  own_origin k = go (ltb 1 n && eqb (suc k) n)
    where
      go : (c : Bool) → cond c (last_position i i) i ≡ i
      go true = omega arith
      go false = refl

  from_own : (k : ℕ) (xs : List ℕ) → marks_from n i i k xs ≡ marks xs i
  from_own k [] = refl
  from_own k (x ∷ xs) = ap₂ (λ (o : ℕ) (ms : List Mark). record { symbol = x; origin = o } ∷ ms) (own_origin k) (from_own (suc k) xs)

pub marks_own : (w : List ℕ) (i : ℕ) → word_marks w i i ≡ marks w i
marks_own w i = from_own (length w) i 0 w

-- a stretch, a symbol that is k further on: so are its origins, and the symbols are the same
module _ (n k i j : ℕ) where
  origin_later : (x : ℕ) → word_origin n (k + i) (k + j) x ≡ k + word_origin n i j x
  origin_later x = go (ltb 1 n && eqb (suc x) n)
    where
      go : (c : Bool) → cond c (last_position (k + i) (k + j)) (k + i) ≡ k + cond c (last_position i j) i
      go true = omega arith
      go false = refl

  from_later : (x : ℕ) (w : List ℕ) → marks_from n (k + i) (k + j) x w ≡ map (later k) (marks_from n i j x w)
  from_later x [] = refl
  from_later x (s ∷ w) = ap₂ (λ (o : ℕ) (ms : List Mark). record { symbol = s; origin = o } ∷ ms) (origin_later x) (from_later (suc x) w)

pub word_later : (w : List ℕ) (k i j : ℕ) → word_marks w (k + i) (k + j) ≡ map (later k) (word_marks w i j)
word_later w k i j = from_later (length w) k i j 0 w

pub marks_later : (xs : List ℕ) (k i : ℕ) → marks xs (k + i) ≡ map (later k) (marks xs i)
marks_later [] k i = refl
marks_later (x ∷ xs) k i = ap (λ (ms : List Mark). record { symbol = x; origin = k + i } ∷ ms) (marks_later xs k i)

pub symbols_later : (k : ℕ) (ms : List Mark) → symbols_of (map (later k) ms) ≡ symbols_of ms
symbols_later k [] = refl
symbols_later k (m ∷ ms) = ap (λ (l : List ℕ). m.symbol ∷ l) (symbols_later k ms)

pub origins_later : (k : ℕ) (ms : List Mark) → origins_of (map (later k) ms) ≡ map (λ (o : ℕ). k + o) (origins_of ms)
origins_later k [] = refl
origins_later k (m ∷ ms) = ap (λ (l : List ℕ). (k + m.origin) ∷ l) (origins_later k ms)

-- each symbol of a replacement with its origin
module _ (w : List ℕ) (i j : ℕ) (m : Mark) where
  from_out : (k : ℕ) (v : List ℕ) → Memᴰ m (marks_from (length w) i j k v)
      → (l : ℕ) × (l < length v) × (m.symbol ≡ get_or v l 0) × (m.origin ≡ word_origin (length w) i j (k + l))
  from_out k [] z = elim z [ ]
  from_out k (x ∷ v) (Memᴰ.head e) =
      let q : k ≡ k + 0 = omega arith in (0, omega arith, λ u. (e u).symbol, (λ u. (e u).origin) ∙ ap (word_origin (length w) i j) q)
  from_out k (x ∷ v) (Memᴰ.tail z) =
      let r = from_out (suc k) v z in
      let h = r.1 in
      let q : suc k + r.0 ≡ k + suc r.0 = omega arith in
      (suc r.0, omega arith, r.2, r.3 ∙ ap (word_origin (length w) i j) q)

  pub marks_out : Memᴰ m (word_marks w i j) → (k : ℕ) × Spelled w i j k m
  marks_out z =
      let r = from_out 0 w z in
      let k = r.0 in
      let q : 0 + k ≡ k = omega arith in
      let e = r.3 ∙ ap (word_origin (length w) i j) q in (
        k,
        record {
          within = r.1;
          symbol = r.2;
          one = λ h. e ∙ origin_one (length w) i j k (omega arith);
          last = λ h g. e ∙ origin_last (length w) i j k h g;
          other = λ h. e ∙ origin_other (length w) i j k h;
        },
      )

  -- none is later than the last position
  pub spelled_most : (k : ℕ) → Spelled w i j k m → m.origin ≤ last_position i j
  spelled_most k s = by_cases (dec_lt (suc k) (length w))
      (λ h. omega (arith, s.other h))
      (λ h. by_cases (dec_lt 1 (length w))
      (λ g. omega (arith, s.last g (omega (arith, s.within))))
      (λ g. omega (arith, s.one (omega (arith, s.within)))))
