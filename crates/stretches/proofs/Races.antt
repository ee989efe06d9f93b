-- Two races on one tape: candidates, the longest, and what stands over each position of a joined tape, where no rule looks across the symbol between the
-- two: before it as on the first tape, after it as on the second, moved on. So a walk along it is one along the first, what is said of the symbol, and
-- one along the second. Empty candidates are in it, at the end of the first tape and at the front of the second. Assumes nothing.
use Prim.Native.Nat.{ℕ, zero, suc, ◌+◌, ◌-◌, ◌≤◌, ◌<◌}
use mathlib.Core.List.{List, [], ◌∷◌, ◌++◌, map, append_assoc}
use mathlib.Core.Bool.{Bool, true, false, ◌&&◌}
use mathlib.Core.Path.{◌≡◌, subst, sym, ap, ap₂, ◌∙◌}
use mathlib.Core.Logic.{by_cases}
use native.Mathlib.Omega.{arith}
use native.Mathlib.Decide.{dec_lt}
use native.Mathlib.Nat.{add-zero, add-suc, zero-add}
use lib.Dec.{T, ltb}
use lib.ListN.{length, take, drop, length-append, length-drop}
use lib.Seq.{slice, take-append-le, drop-append-le, take-append-add, drop-append-add, drop-append_seam}
use Rattle.book.specs.Language.{Rules, any, up_from}
use Rattle.book.specs.Unused.{Blind}
use Rattle.book.proofs.Some.{any_none}
use Rattle.stretches.specs.Candidates.{Stretch, candidate, rules_of, some_rule, last_of, first_of, longest, rule_of, fresh, cover, over_tape}
use Rattle.stretches.specs.Account.{each}
use Rattle.stretches.specs.Races.{joined, beyond, shifted}
use Rattle.stretches.proofs.Lists.{each_split, each_snoc, each_same, each_later, map_each}
use Rattle.stretches.proofs.Last.{last_none, last_split, last_same, last_later}
use Rattle.stretches.proofs.Walks.{over, over_zero, over_suc, cover_in, cover_new, symbol_at, tape_over, longest_high, end_inside}

-- ---- the tape: what stands before m, across it, past it
module _ (t : List ℕ) (m : ℕ) (u : List ℕ) where
  abbrev J : List ℕ
  J = joined t m u

  abbrev K : ℕ
  K = beyond t

  pub length_joined : length J ≡ K + length u
  length_joined = let e = length-append t (m ∷ u) in omega arith

  take_later : (i : ℕ) → take (K + i) J ≡ t ++ (m ∷ take i u)
  take_later i = let e : K + i ≡ length t + suc i = omega arith in ap (λ (n : ℕ). take n J) e ∙ take-append-add t (m ∷ u) (suc i)

  drop_later : (i : ℕ) → drop (K + i) J ≡ drop i u
  drop_later i = let e : K + i ≡ length t + suc i = omega arith in ap (λ (n : ℕ). drop n J) e ∙ drop-append-add t (m ∷ u) (suc i)

  slice_later : (i j : ℕ) → slice (K + i) (K + j) J ≡ slice i j u
  slice_later i j =
      let e : K + i ≡ length t + suc i = omega arith in
      ap (drop (K + i)) (take_later j) ∙ ap (λ (n : ℕ). drop n (t ++ (m ∷ take j u))) e ∙ drop-append-add t (m ∷ take j u) (suc i)

  slice_before : (i j : ℕ) → j ≤ length t → slice i j J ≡ slice i j t
  slice_before i j h = ap (drop i) (take-append-le j t (m ∷ u) h)

  slice_across : (i j : ℕ) → i ≤ length t → length t < j → slice i j J ≡ drop i t ++ (m ∷ take (j - K) u)
  slice_across i j h g =
      let e : j ≡ K + (j - K) = omega arith in
      ap (λ (n : ℕ). slice i n J) e ∙ ap (drop i) (take_later (j - K)) ∙ drop-append-le i t (m ∷ take (j - K) u) h

  symbol_before : (b : Rules) (i : ℕ) → i < length t → symbol_at b J i ≡ symbol_at b t i
  symbol_before b i h =
      let e = length-drop i t in
      ap (take 1) (drop-append-le i t (m ∷ u) (omega arith)) ∙ take-append-le 1 (drop i t) (m ∷ u) (omega arith)

  symbol_marker : (b : Rules) → symbol_at b J (length t) ≡ m ∷ []
  symbol_marker b = ap (take 1) (drop-append_seam t (m ∷ u))

  symbol_later : (b : Rules) (i : ℕ) → symbol_at b J (K + i) ≡ symbol_at b u i
  symbol_later b i = ap (take 1) (drop_later i)

  -- ---- candidates
  module _ (b : Rules) (blind : Blind m b) where
    pub candidate_before : (i j : ℕ) → i ≤ length t → j ≤ length t → (r : ℕ) → candidate b J i j r ≡ candidate b t i j r
    unfolding candidate
    candidate_before i j h g r =
        ap₂ (λ (x y : List ℕ). b.focus r x && b.left r y && b.right r (drop j J)) (slice_before i j g) (take-append-le i t (m ∷ u) h)
        ∙ ap (λ (c : Bool). b.focus r (slice i j t) && b.left r (take i t) && c)
        (ap (b.right r) (drop-append-le j t (m ∷ u) g) ∙ blind.right r (drop j t) u)

    pub candidate_across : (i j : ℕ) → i ≤ length t → length t < j → (r : ℕ) → candidate b J i j r ≡ false
    unfolding candidate
    candidate_across i j h g r =
        ap (λ (c : Bool). c && b.left r (take i J) && b.right r (drop j J))
        (ap (b.focus r) (slice_across i j h g) ∙ blind.focus r (drop i t) (take (j - K) u))

    pub candidate_later : (i j r : ℕ) → candidate b J (K + i) (K + j) r ≡ candidate b u i j r
    unfolding candidate
    candidate_later i j r =
        ap₂ (λ (x y : List ℕ). b.focus r x && b.left r (take (K + i) J) && b.right r y) (slice_later i j) (drop_later j)
        ∙ ap (λ (c : Bool). b.focus r (slice i j u) && c && b.right r (drop j u)) (ap (b.left r) (take_later i) ∙ blind.left r t (take i u))

    some_before : (i j : ℕ) → i ≤ length t → j ≤ length t → some_rule b J i j ≡ some_rule b t i j
    some_before i j h g = λ p. any (λ (r : ℕ). candidate_before i j h g r p) (rules_of b)

    some_across : (i j : ℕ) → i ≤ length t → length t < j → some_rule b J i j ≡ false
    some_across i j h g = any_none (candidate b J i j) (candidate_across i j h g) (rules_of b)

    some_later : (i j : ℕ) → some_rule b J (K + i) (K + j) ≡ some_rule b u i j
    some_later i j = λ p. any (λ (r : ℕ). candidate_later i j r p) (rules_of b)

    pub rule_before : (i j : ℕ) → i ≤ length t → j ≤ length t → rule_of b J i j ≡ rule_of b t i j
    rule_before i j h g = λ p. first_of (λ (r : ℕ). candidate_before i j h g r p) (rules_of b) 0

    pub rule_later : (i j : ℕ) → rule_of b J (K + i) (K + j) ≡ rule_of b u i j
    rule_later i j = λ p. first_of (λ (r : ℕ). candidate_later i j r p) (rules_of b) 0

    -- ---- the longest, and what stands over a position
    longest_before : (i : ℕ) → i ≤ length t → longest b J i ≡ longest b t i
    unfolding longest
    longest_before i h =
        let l = length_joined in
        let e : suc (length J) - i ≡ suc (length t) - i + suc (length u) = omega arith in
        let n = suc (length t) - i in
        ap (λ (x : ℕ). last_of (some_rule b J i) (up_from i x) i) e
        ∙ last_split (some_rule b J i) i n (suc (length u)) i
        ∙ last_none (some_rule b J i) (i + n) (suc (length u)) (last_of (some_rule b J i) (up_from i n) i)
        (λ j p q x. subst T (some_across i j h (omega arith)) x)
        ∙ last_same (some_rule b J i) (some_rule b t i) i n i (λ j p q. some_before i j h (omega arith))

    longest_later : (i : ℕ) → longest b J (K + i) ≡ K + longest b u i
    unfolding longest
    longest_later i =
        let l = length_joined in
        let e : suc (length J) - (K + i) ≡ suc (length u) - i = omega arith in
        ap (λ (n : ℕ). last_of (some_rule b J (K + i)) (up_from (K + i) n) (K + i)) e
        ∙ last_later (some_rule b J (K + i)) (some_rule b u i) K (some_later i) i (suc (length u) - i) i

    fresh_before : (i : ℕ) → i ≤ length t → fresh b J i ≡ fresh b t i
    fresh_before i h =
        let e = longest_before i h in
        let s = ap (some_rule b J i) e ∙ some_before i (longest b t i) h (longest_high b t i h) in
        ap₂ (λ (j : ℕ) (c : Bool). record { start = i; end = j; taken = c }) e s

    fresh_later : (i : ℕ) → fresh b J (K + i) ≡ shifted K (fresh b u i)
    fresh_later i =
        let e = longest_later i in
        let s = ap (some_rule b J (K + i)) e ∙ some_later i (longest b u i) in
        ap₂ (λ (j : ℕ) (c : Bool). record { start = K + i; end = j; taken = c }) e s

    over_before : (i : ℕ) → i ≤ length t → over b J i ≡ over b t i
    over_before zero h = over_zero b J ∙ fresh_before 0 h ∙ sym (over_zero b t)
    over_before (suc i) h =
        over_suc b J i
        ∙ ap (cover b J (suc i)) (over_before i (omega arith))
        ∙ ap (λ (d : Stretch). elim (ltb (suc i) (over b t i).end) [ true ↦ over b t i | false ↦ d ]) (fresh_before (suc i) h)
        ∙ sym (over_suc b t i)

    cover_later : (i : ℕ) (c : Stretch) → cover b J (K + i) (shifted K c) ≡ shifted K (cover b u i c)
    cover_later i c = by_cases (dec_lt i c.end)
        (λ h. cover_in b J (K + i) (shifted K c) (omega arith) ∙ sym (ap (shifted K) (cover_in b u i c h)))
        (λ h. cover_new b J (K + i) (shifted K c) (omega arith) ∙ fresh_later i ∙ sym (ap (shifted K) (cover_new b u i c (omega arith))))

    over_later : (i : ℕ) → over b J (K + i) ≡ shifted K (over b u i)
    over_later zero =
        let e = end_inside b t (length t) (omega arith) in
        let l = ap (λ (d : Stretch). d.end) (over_before (length t) (omega arith)) in
        ap (over b J) (add-zero K)
        ∙ over_suc b J (length t)
        ∙ cover_new b J K (over b J (length t)) (omega arith)
        ∙ ap (fresh b J) (sym (add-zero K))
        ∙ fresh_later 0
        ∙ ap (shifted K) (sym (over_zero b u))
    over_later (suc i) =
        ap (over b J) (add-suc K i)
        ∙ over_suc b J (K + i)
        ∙ ap (cover b J (suc (K + i))) (over_later i)
        ∙ ap (λ (x : ℕ). cover b J x (shifted K (over b u i))) (sym (add-suc K i))
        ∙ cover_later (suc i) (over b u i)
        ∙ ap (shifted K) (sym (over_suc b u i))

    -- ---- a walk along the joined tape: along t, at m, along u
    module _ {ℓ} {A : Type ℓ} (f g h : ℕ → List ℕ → Stretch → List A) (move : A → A) (mid : List A)
        (before : (i : ℕ) (x : List ℕ) → i < length t → f i x (over b t i) ≡ g i x (over b t i))
        (between : f (length t) (m ∷ []) (over b t (length t)) ≡ g (length t) (symbol_at b t (length t)) (over b t (length t)) ++ mid)
        (after : (i : ℕ) (x : List ℕ) → f (K + i) x (shifted K (over b u i)) ≡ map move (h i x (over b u i)))
      where
        abbrev F : ℕ → List A
        F i = f i (symbol_at b J i) (over b J i)

        abbrev G : ℕ → List A
        G i = g i (symbol_at b t i) (over b t i)

        abbrev H : ℕ → List A
        H i = h i (symbol_at b u i) (over b u i)

        up_to : (i : ℕ) → i < length t → F i ≡ G i
        up_to i p = ap₂ (f i) (symbol_before b i p) (over_before i (omega arith)) ∙ before i (symbol_at b t i) p

        here : F (length t) ≡ G (length t) ++ mid
        here = ap₂ (f (length t)) (symbol_marker b) (over_before (length t) (omega arith)) ∙ between

        from : (i : ℕ) → F (K + i) ≡ map move (H i)
        from i = ap₂ (f (K + i)) (symbol_later b i) (over_later i) ∙ after i (symbol_at b u i)

        -- the positions of t and of m
        first : each F 0 K ≡ over_tape g b t ++ mid
        first =
            let n = length t in
            let z = zero-add n in
            each_snoc F 0 n
            ∙ ap₂ (λ (x : List A) (i : ℕ). x ++ F i) (each_same F G 0 n (λ i p q. up_to i (omega arith))) z
            ∙ ap (λ (x : List A). each G 0 n ++ x) here
            ∙ sym (append_assoc (each G 0 n) (G n) mid)
            ∙ ap (λ (i : ℕ). (each G 0 n ++ G i) ++ mid) (sym z)
            ∙ ap (λ (x : List A). x ++ mid) (sym (each_snoc G 0 n) ∙ sym (tape_over b t g))

        -- those of u
        second : each F (K + 0) (suc (length u)) ≡ map move (over_tape h b u)
        second =
            let k = suc (length u) in
            each_later F K 0 k
            ∙ each_same (λ (i : ℕ). F (K + i)) (λ (i : ℕ). map move (H i)) 0 k (λ i p q. from i)
            ∙ sym (map_each move H 0 k)
            ∙ ap (map move) (sym (tape_over b u h))

        pub walk_joins : over_tape f b J ≡ over_tape g b t ++ (mid ++ map move (over_tape h b u))
        walk_joins =
            let l = length_joined in
            let e : suc (length J) ≡ K + suc (length u) = omega arith in
            let z : 0 + K ≡ K + 0 = omega arith in
            tape_over b J f
            ∙ ap (each F 0) e
            ∙ each_split F 0 K (suc (length u))
            ∙ ap (λ (i : ℕ). each F 0 K ++ each F i (suc (length u))) z
            ∙ ap₂ (λ (x y : List A). x ++ y) first second
            ∙ append_assoc (over_tape g b t) mid (map move (over_tape h b u))
