-- Source document 001, definitions 3.2 and 3.4 to 3.7 and 3.12, line by line. Our Rules are its batch BR, our tape its t; rules and positions are
-- numbered from 0 where it counts from 1, and T_r(v) is the one word of rule r.
-- The formulas of definition 3.6 are missing from the file: they are RECONSTRUCTED here. After and Leftmost stand as the proofs of propositions
-- 3.9 to 3.11 quote them; Longest is read off the remark after 3.9, the end of 3.11's proof and example 3.8. Those propositions, the remarks and
-- the example are proved of what is written here (crates/rewriter/proofs/Claims.antt).
use Rattle.std.specs.Prelude.{ℕ, zero, suc, ◌≤◌, ◌<◌, List, [], ◌∷◌, ◌++◌, ◌≡◌, ◌⊎◌, ◌≢◌, T, length, get_or}
use Rattle.book.specs.Format.{left_part, focus_part, right_part}
use Rattle.book.specs.Reading.{Book}
use Rattle.book.specs.Language.{accepts, Rules}
use Rattle.stretches.specs.Output.{Mark, kept_marks, word_marks, rule_word}
use Rattle.stretches.specs.Account.{each}

-- 3.2: (u, v, w)
pub record Context : Type 0 where
  pub u : List ℕ
  pub v : List ℕ
  pub w : List ℕ

-- |u| and |uv|
abbrev pub start : Context → ℕ
start c = length c.u

abbrev pub end : Context → ℕ
end c = length (c.u ++ c.v)

-- a set of contexts
abbrev pub Contexts : Type 1
Contexts = Context → Type 0

-- 3.2: u ∈ Σ*λ & v ∈ Dom(T) & w ∈ ρΣ* & t = uvw, for the rule r
pub record RC (b : Rules) (t : List ℕ) (r : ℕ) (c : Context) : Type 0 where
  pub left : T (b.left r c.u)
  pub focus : T (b.focus r c.v)
  pub right : T (b.right r c.w)
  pub whole : t ≡ c.u ++ (c.v ++ c.w)

-- 3.2 for a rule of a book, its three languages written out: u ∈ Σ*λ is u = xy with y ∈ λ, w ∈ ρΣ* is w = xy with x ∈ ρ
pub record BookRC (b : Book) (t : List ℕ) (r : ℕ) (c : Context) : Type 0 where
  pub left : (x y : List ℕ) × (c.u ≡ x ++ y) × T (accepts b r left_part y)
  pub focus : T (accepts b r focus_part c.v)
  pub right : (x y : List ℕ) × (c.w ≡ x ++ y) × T (accepts b r right_part x)
  pub whole : t ≡ c.u ++ (c.v ++ c.w)

-- 3.4: C(t, BR) = ⋃ ctx(t, T_r/λ_r_ρ_r), the contexts of all rules
pub record C (b : Rules) (t : List ℕ) (c : Context) : Type 0 where
  pub rule : ℕ
  pub known : rule < length b.words
  pub context : RC b t rule c

-- 3.4: r is earliest(t, BR)(c) = min { r | RC(c, t, T_r/λ_r_ρ_r) }
pub record Earliest (b : Rules) (t : List ℕ) (c : Context) (r : ℕ) : Type 0 where
  pub known : r < length b.words
  pub context : RC b t r c
  pub least : (q : ℕ) → q < length b.words → RC b t q c → r ≤ q

-- 3.5: Over(c₂, c₁) if |u₁| < |u₂| < |u₁v₁|
pub record Over (c₂ c₁ : Context) : Type 0 where
  pub below : start c₁ < start c₂
  pub above : start c₂ < end c₁

-- 3.5: Overlap(c₁, c₂) if |u₁| < |u₂v₂|, |u₂| < |u₁v₁| and |u₁| ≠ |u₂|
pub record Overlap (c₁ c₂ : Context) : Type 0 where
  pub one : start c₁ < end c₂
  pub two : start c₂ < end c₁
  pub other : start c₁ ≢ start c₂

-- 3.6, reconstructed: After(A, B) = { (u, v, w) ∈ A | ∀ (u', v', w') ∈ B: |u| ≥ |u'v'| & |u| ≠ |u'| }
pub record After (A B : Contexts) (c : Context) : Type 0 where
  pub member : A c
  pub past : (d : Context) → B d → end d ≤ start c
  pub apart : (d : Context) → B d → start c ≢ start d

-- 3.6, reconstructed: Leftmost(A) = { (u, v, w) ∈ A | ∀ (u', v', w') ∈ A: |u| ≤ |u'| }
pub record Leftmost (A : Contexts) (c : Context) : Type 0 where
  pub member : A c
  pub first : (d : Context) → A d → start c ≤ start d

-- 3.6, reconstructed: Longest(A) = { (u, v, w) ∈ A | ∀ (u', v', w') ∈ A: |u| = |u'| → |v'| ≤ |v| }
pub record Longest (A : Contexts) (c : Context) : Type 0 where
  pub member : A c
  pub longest : (d : Context) → A d → start c ≡ start d → length d.v ≤ length c.v

-- 3.7: C₀ = ∅, Cₖ₊₁ = Cₖ ∪ Leftmost(After(C, Cₖ))
abbrev pub Seq : Rules → List ℕ → ℕ → Contexts
Seq b t zero c = ⊥
Seq b t (suc k) c = Seq b t k c ⊎ Leftmost (After (C b t) (Seq b t k)) c

-- 3.7: C_LM is the union of the Cₖ, C_LML = Longest(C_LM)
pub record CLM (b : Rules) (t : List ℕ) (c : Context) : Type 0 where
  pub k : ℕ
  pub member : Seq b t k c

abbrev pub CLML : Rules → List ℕ → Contexts
CLML b t = Longest (CLM b t)

-- 3.12: yᵢ is T_earliest(c)(ε) where |u| = i & v = ε for some c = (u, v, w) ∈ C_LML, else ε
pub data Put (b : Rules) (t : List ℕ) (i : ℕ) : List Mark → Type 0 where
  word : (c : Context) (r : ℕ) → CLML b t c → start c ≡ i → c.v ≡ [] → Earliest b t c r → Put b t i (word_marks (rule_word b r) (start c) (end c))
  none : ((c : Context) → CLML b t c → start c ≡ i → c.v ≡ [] → ⊥) → Put b t i []

-- 3.12: xᵢ₊₁ is T_earliest(c)(v) where |u| = i < |uv| for some c ∈ C_LML, ε where |u| < i < |uv|, else the symbol at i
pub data Piece (b : Rules) (t : List ℕ) (i : ℕ) : List Mark → Type 0 where
  word : (c : Context) (r : ℕ) → CLML b t c → start c ≡ i → i < end c → Earliest b t c r → Piece b t i (word_marks (rule_word b r) (start c) (end c))
  gone : (c : Context) → CLML b t c → start c < i → i < end c → Piece b t i []
  kept : ((c : Context) → CLML b t c → start c ≤ i → i < end c → ⊥) → Piece b t i (kept_marks (get_or t i 0 ∷ []) i)

-- 3.12: t' = x₀y₀x₁y₁…xₙyₙ, x₀ being empty; x i here is xᵢ₊₁
pub record RewriteLML (b : Rules) (t : List ℕ) (out : List Mark) : Type 0 where
  pub x : ℕ → List Mark
  pub y : ℕ → List Mark
  pub piece : (i : ℕ) → i < length t → Piece b t i (x i)
  pub put : (i : ℕ) → i ≤ length t → Put b t i (y i)
  pub whole : out ≡ each (λ (i : ℕ). y i ++ x i) 0 (length t) ++ y (length t)
