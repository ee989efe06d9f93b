-- Document 01, "Which stretches are replaced". These definitions compute; Paper.antt and Sentences.antt say the same in the words of
-- source document 001 and of document 01, and crates/rewriter/proofs/Claims.antt has the theorems that it is the same. Document 02,
-- No. 5: "The focus may now be empty and a candidate's start equal its end"; so the walk visits the tape's end too.
use Rattle.std.specs.Prelude.{ℕ, suc, ◌-◌, List, [], ◌∷◌, ◌++◌, Bool, true, false, ◌&&◌, cond, eqb, ltb, length, take, drop}
use Rattle.std.proofs.Math.Seq.{slice}
use Rattle.book.specs.Language.{Rules, any, up_from}

-- "the stretch from i up to and not including j is a candidate of rule r when some word ending at i is in r's left language, t from i to j
-- is in its focus language, and some word beginning at j is in its right language. All three are read from the original tape."
unfoldable pub candidate : Rules → List ℕ → ℕ → ℕ → ℕ → Bool
candidate b t i j r = b.focus r (slice i j t) && b.left r (take i t) && b.right r (drop j t)

-- the numbers of the rules
abbrev pub rules_of : Rules → List ℕ
rules_of b = up_from 0 (length b.words)

-- the stretch from i to j is a candidate of some rule
abbrev pub some_rule : Rules → List ℕ → ℕ → ℕ → Bool
some_rule b t i j = any (candidate b t i j) (rules_of b)

-- the last number of the list that passes, or d
abbrev pub last_of : (ℕ → Bool) → List ℕ → ℕ → ℕ
last_of p [] d = d
last_of p (x ∷ xs) d = last_of p xs (cond (p x) x d)

-- the first number of the list that passes, or d
abbrev pub first_of : (ℕ → Bool) → List ℕ → ℕ → ℕ
first_of p [] d = d
first_of p (x ∷ xs) d = cond (p x) x (first_of p xs d)

-- "At a taken start the longest candidate is taken": where it ends, among i to n; i itself where no candidate starts at i
unfoldable pub longest : Rules → List ℕ → ℕ → ℕ
longest b t i = last_of (some_rule b t i) (up_from i (suc (length t) - i)) i

-- "among equal stretches, the lowest rule number"
abbrev pub rule_of : Rules → List ℕ → ℕ → ℕ → ℕ
rule_of b t i j = first_of (candidate b t i j) (rules_of b) 0

-- what stands over a position: a taken stretch; or, where there is none, the position itself, not taken, with end = start
pub record Stretch : Type 0 where
  pub start : ℕ
  pub end : ℕ
  pub taken : Bool

-- what starts at i, where no stretch taken before goes past i
abbrev pub fresh : Rules → List ℕ → ℕ → Stretch
fresh b t i = record { start = i; end = longest b t i; taken = some_rule b t i (longest b t i) }

-- "the smallest candidate start; then, again and again, the smallest candidate start that is at or after the end of the stretch just
-- taken": what stands over i, where c stands over the position before, is c while it lasts
abbrev pub cover : Rules → List ℕ → ℕ → Stretch → Stretch
cover b t i c = elim (ltb i c.end) [ true ↦ c | false ↦ fresh b t i ]

-- what f says of each position, its symbol (none at the end of the tape) and what stands over it; from i on, where w is still to come
abbrev pub along {ℓ} : {A : Type ℓ} → (ℕ → List ℕ → Stretch → List A) → Rules → List ℕ → ℕ → Stretch → List ℕ → List A
along f b t i c [] = f i [] (cover b t i c)
along f b t i c (x ∷ w) = let d = cover b t i c in f i (x ∷ []) d ++ along f b t (suc i) d w

abbrev pub over_tape {ℓ} : {A : Type ℓ} → (ℕ → List ℕ → Stretch → List A) → Rules → List ℕ → List A
over_tape f b t = along f b t 0 (record { start = 0; end = 0; taken = false }) t

-- x where the test holds
abbrev pub keep {ℓ} : {A : Type ℓ} → Bool → A → List A
keep true x = x ∷ []
keep false x = []

-- the stretches taken, in order; their number is what REWRITE reports
abbrev pub taken_at : ℕ → List ℕ → Stretch → List Stretch
taken_at i x d = keep (eqb d.start i && d.taken) d

unfoldable pub taken : Rules → List ℕ → List Stretch
taken b t = over_tape taken_at b t
