-- Two books with the same words, whose rules say the same of every piece of the tape, rewrite it alike and give the same account: nothing else is asked of a
-- book. So on a tape of the first n symbols it is all one whether the languages have words of other symbols. Assumes nothing.
use Prim.Native.Nat.{ℕ, zero, suc, ◌-◌}
use mathlib.Core.Path.{◌≡◌, refl, ap, ap₂, ◌∙◌}
use mathlib.Core.Bool.{Bool, true, false, cond, not, ◌&&◌, ◌||◌}
use mathlib.Core.List.{List, [], ◌∷◌, ◌++◌}
use lib.Dec.{ltb, leb}
use lib.ListN.{length, take, drop, get_or}
use lib.Seq.{slice}
use Rattle.book.specs.Language.{Rules, any, up_from}
use Rattle.book.specs.Before.{high}
use Rattle.book.proofs.Tests.{or_none}
use Rattle.stretches.specs.Candidates.{candidate, some_rule, last_of, first_of, longest, rule_of, Stretch, fresh, cover, along, keep}
use Rattle.stretches.specs.Output.{Mark, word_marks, written, kept_marks, written_at, rewriting}
use Rattle.stretches.specs.Account.{judge, verdict_by, line_for, each, lines_at, account}
use Rattle.stretches.specs.Before.{rules_below}

module _ (b b' : Rules) (t : List ℕ) (words : b.words ≡ b'.words) (same : (i j r : ℕ) → candidate b t i j r ≡ candidate b' t i j r) where
  some_same : (i j : ℕ) → some_rule b t i j ≡ some_rule b' t i j
  some_same i j = λ p. any (λ (r : ℕ). same i j r p) (up_from 0 (length (words p)))

  rule_same : (i j : ℕ) → rule_of b t i j ≡ rule_of b' t i j
  rule_same i j = λ p. first_of (λ (r : ℕ). same i j r p) (up_from 0 (length (words p))) 0

  longest_same : (i : ℕ) → longest b t i ≡ longest b' t i
  unfolding longest
  longest_same i = λ p. last_of (λ (j : ℕ). some_same i j p) (up_from i (suc (length t) - i)) i

  fresh_same : (i : ℕ) → fresh b t i ≡ fresh b' t i
  fresh_same i = λ p. record { start = i; end = longest_same i p; taken = some_same i (longest_same i p) p }

  cover_same : (i : ℕ) (c : Stretch) → cover b t i c ≡ cover b' t i c
  cover_same i c = by (ltb i c.end)
    where
      by : (x : Bool) → ◌≡◌ {A = Stretch} (elim x [ true ↦ c | false ↦ fresh b t i ]) (elim x [ true ↦ c | false ↦ fresh b' t i ])
      by true = refl
      by false = fresh_same i

  module _ {ℓ} {A : Type ℓ} (f f' : ℕ → List ℕ → Stretch → List A) (says : (i : ℕ) (x : List ℕ) (d : Stretch) → f i x d ≡ f' i x d) where
    along_same : (i : ℕ) (c : Stretch) (w : List ℕ) → along f b t i c w ≡ along f' b' t i c w
    along_same i c [] = says i [] _ ∙ ap (f' i []) (cover_same i c)
    along_same i c (x ∷ w) =
        ap₂ ◌++◌ (says i (x ∷ []) _ ∙ ap (f' i (x ∷ [])) (cover_same i c))
        (along_same (suc i) (cover b t i c) w ∙ ap (λ (d : Stretch). along f' b' t (suc i) d w) (cover_same i c))

  written_same : (i j : ℕ) → written b t i j ≡ written b' t i j
  written_same i j = λ p. word_marks (get_or (words p) (rule_same i j p) []) i j

  pub rewriting_same : rewriting b t ≡ rewriting b' t
  unfolding rewriting
  rewriting_same = along_same (written_at b t) (written_at b' t) (λ i x d.
      ap (λ (u : List Mark). cond (ltb d.start i) [] (cond d.taken u [] ++ cond (ltb i d.end) [] (kept_marks x i))) (written_same d.start d.end))
      0 (record { start = 0; end = 0; taken = false }) t

  line_same : (i j r : ℕ) (d : Stretch) → line_for b t i j r d ≡ line_for b' t i j r d
  line_same i j r d = ap (λ (q : ℕ). judge i j r (verdict_by i j r d.start d.end q) d.start q) (rule_same d.start d.end)

  pub account_same : account b t ≡ account b' t
  unfolding account
  account_same = along_same (lines_at b t) (lines_at b' t) (λ i x d p.
      each (λ (j : ℕ). each (λ (r : ℕ). keep (same i j r p) (line_same i j r d p)) 0 (length (words p))) i (suc (length t) - i))
      0 (record { start = 0; end = 0; taken = false }) t

-- ---- a tape of the first n symbols

low_take : (n i : ℕ) (t : List ℕ) → high n t ≡ false → high n (take i t) ≡ false
low_take n zero t e = refl
low_take n (suc i) [] e = refl
low_take n (suc i) (x ∷ t) e = let y = or_none (leb n x) (high n t) e in ap₂ ◌||◌ y.0 (low_take n i t y.1)

low_drop : (n i : ℕ) (t : List ℕ) → high n t ≡ false → high n (drop i t) ≡ false
low_drop n zero t e = e
low_drop n (suc i) [] e = refl
low_drop n (suc i) (x ∷ t) e = low_drop n i t (or_none (leb n x) (high n t) e).1

module _ (n : ℕ) (b : Rules) (t : List ℕ) (low : high n t ≡ false) where
  candidate_below : (i j r : ℕ) → candidate (rules_below n b) t i j r ≡ candidate b t i j r
  unfolding candidate
  candidate_below i j r =
      λ p. ((not (low_slice p) && b.focus r (slice i j t)) && (not (low_take n i t low p) && b.left r (take i t)))
      && (not (low_drop n j t low p) && b.right r (drop j t))
    where
      low_slice : high n (slice i j t) ≡ false
      low_slice = low_drop n i (take j t) (low_take n j t low)

  pub rewriting_below : rewriting (rules_below n b) t ≡ rewriting b t
  rewriting_below = rewriting_same (rules_below n b) b t refl candidate_below

  pub account_below : account (rules_below n b) t ≡ account b t
  account_below = account_same (rules_below n b) b t refl candidate_below
