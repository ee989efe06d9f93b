-- The second pass: the lines done are a front of the text's lines; each state named has its number; flags and arcs after one line more.
use Prim.Native.Nat.{ℕ, zero, suc, ◌+◌, ◌≤◌, ◌<◌}
use mathlib.Core.Path.{◌≡◌, refl, ap, sym, ◌∙◌}
use mathlib.Core.List.{List, [], ◌∷◌, ◌++◌, append_assoc, append-nil}
use native.Mathlib.Omega.{arith}
use native.Mathlib.Decide.{dec_lt, ℕ_discrete}
use lib.ListN.{length, length-append}
use Rattle.att.specs.Reading.{line_at}
use Rattle.att.specs.Text.{Said, arc, final, Read, accepted, turn, read_from, read_text, lines_in, idx, add, add_line, names_from, names}
use Rattle.att.specs.Line.{Line, End, Final, Arc, Faulty}
use Rattle.book.proofs.Idx.{idx_append, idx_same, idx_other, idx_le}
use Rattle.att.proofs.Names.{add_in, add_new}
use Rattle.att.proofs.Surveying.{Walk, names_snoc}

pub record Longer (done whole : List Said) : Type 0 where
  pub rest : List Said
  pub is : whole ≡ done ++ rest

longer_by : (done whole : List Said) (l : Said) → Longer (done ++ (l ∷ [])) whole → Longer done whole
longer_by done whole l g = record { rest = l ∷ g.rest; is = g.is ∙ append_assoc done (l ∷ []) g.rest }

longer_turn : (l : Line) (at : ℕ) (done whole : List Said) (go : ℕ → List Said → Read)
    → ((next : ℕ) (more : List Said) → go next more ≡ accepted whole → Longer more whole)
    → turn l at done go ≡ accepted whole → Longer done whole
longer_turn End at done whole go f e = let h : whole ≡ done = sym (ap lines_in e) in record { rest = []; is = h ∙ sym (append-nil done) }
longer_turn (Final x next) at done whole go f e = longer_by done whole (final x) (f next (done ++ (final x ∷ [])) e)
longer_turn (Arc x y a next) at done whole go f e = longer_by done whole (arc x y a) (f next (done ++ (arc x y a ∷ [])) e)
longer_turn (Faulty r) at done whole go f e = let z : ◌≡◌ {A = ℕ} 0 1 = cc in let w : ⊥ = omega arith in absurd w

longer_from : (n : ℕ) (s : List ℕ) (at : ℕ) (done whole : List Said) → read_from n s at done ≡ accepted whole → Longer done whole
unfolding read_from
longer_from zero s at done whole e = let h : whole ≡ done = sym (ap lines_in e) in record { rest = []; is = h ∙ sym (append-nil done) }
longer_from (suc n) s at done whole e = longer_turn (line_at s at) at done whole (λ (next : ℕ) (more : List Said). read_from n s next more)
    (λ next more q. longer_from n s next more whole q) e

pub walk_longer : (s : List ℕ) (at : ℕ) (done whole : List Said) → Walk s at done → read_text s ≡ accepted whole → Longer done whole
walk_longer s at done whole w e = longer_from w.fuel s at done whole (w.rest ∙ e)

-- a state that is among the names
abbrev pub In : List ℕ → ℕ → Type 0
In S x = idx S x < length S

out_snoc : (S : List ℕ) (x : ℕ) → idx (S ++ (x ∷ [])) x ≤ length S
out_snoc [] x = let e = idx_same x [] x refl in omega arith
out_snoc (y ∷ S) x = by_case (ℕ_discrete y x) (out_snoc S x)
  where
    by_case : Dec (y ≡ x) → idx (S ++ (x ∷ [])) x ≤ length S → idx (y ∷ (S ++ (x ∷ []))) x ≤ suc (length S)
    by_case (yes e) f = let k = idx_same y (S ++ (x ∷ [])) x e in omega arith
    by_case (no e) f = let k = idx_other y (S ++ (x ∷ [])) x e in omega arith

pub in_add : (S : List ℕ) (x : ℕ) → In (add S x) x
in_add S x = by_case (dec_lt (idx S x) (length S))
  where
    by_case : Dec (In S x) → In (add S x) x
    by_case (yes h) = rw (add_in S x h) h
    by_case (no h) =
        let n : length S ≤ idx S x = omega (arith, h) in
        let a = add_new S x n in
        let l : length (S ++ (x ∷ [])) ≡ length S + 1 = simp length-append in
        let k = out_snoc S x in
        rw a (omega arith)

pub in_keep : (S : List ℕ) (x y : ℕ) → In S x → In (add S y) x
in_keep S x y h = by_case (dec_lt (idx S y) (length S))
  where
    by_case : Dec (In S y) → In (add S y) x
    by_case (yes k) = rw (add_in S y k) h
    by_case (no k) =
        let n : length S ≤ idx S y = omega (arith, k) in
        let a = add_new S y n in
        let l : length (S ++ (y ∷ [])) ≡ length S + 1 = simp length-append in
        let i = idx_append S (y ∷ []) x h in
        rw a (omega arith)

in_line : (S : List ℕ) (x : ℕ) (l : Said) → In S x → In (add_line S l) x
in_line S x (arc y z a) h = in_keep (add S y) x z (in_keep S x y h)
in_line S x (final y) h = in_keep S x y h

pub in_names : (S : List ℕ) (x : ℕ) (ls : List Said) → In S x → In (names_from S ls) x
unfolding names_from
in_names S x [] h = h
in_names S x (l ∷ ls) h = in_names (add_line S l) x ls (in_line S x l h)

names_append : (S : List ℕ) (ls ms : List Said) → names_from S (ls ++ ms) ≡ names_from (names_from S ls) ms
unfolding names_from
names_append S [] ms = refl
names_append S (l ∷ ls) ms = names_append (add_line S l) ls ms

-- the states of a line that is done are among the names
pub final_in : (done whole : List Said) (x : ℕ) → Longer (done ++ (final x ∷ [])) whole → In (names whole) x
unfolding names
final_in done whole x g = rw (g.is, names_append [] (done ++ (final x ∷ [])) g.rest, names_snoc [] done (final x)) (in_names _ x g.rest (in_add _ x))

pub source_in : (done whole : List Said) (x y a : ℕ) → Longer (done ++ (arc x y a ∷ [])) whole → In (names whole) x
unfolding names
source_in done whole x y a g = rw (g.is, names_append [] (done ++ (arc x y a ∷ [])) g.rest, names_snoc [] done (arc x y a))
    (in_names _ x g.rest (in_keep _ x y (in_add _ x)))

pub target_in : (done whole : List Said) (x y a : ℕ) → Longer (done ++ (arc x y a ∷ [])) whole → In (names whole) y
unfolding names
target_in done whole x y a g = rw (g.is, names_append [] (done ++ (arc x y a ∷ [])) g.rest, names_snoc [] done (arc x y a))
    (in_names _ y g.rest (in_add _ y))

-- each name once
pub data Once : List ℕ → Type 0 where
  none : Once []
  one : {x : ℕ} {S : List ℕ} → idx S x ≡ length S → Once S → Once (x ∷ S)

out_more : (S : List ℕ) (x y : ℕ) → idx S y ≡ length S → (x ≡ y → ⊥) → idx (S ++ (x ∷ [])) y ≡ length (S ++ (x ∷ []))
unfolding idx
out_more [] x y h n = idx_other x [] y n
out_more (z ∷ S) x y h n = by_case (ℕ_discrete z y) (λ k. out_more S x y k n)
  where
    by_case : Dec (z ≡ y) → (idx S y ≡ length S → idx (S ++ (x ∷ [])) y ≡ length (S ++ (x ∷ []))) → idx (z ∷ (S ++ (x ∷ []))) y ≡ suc (length (S ++ (x ∷ [])))
    by_case (yes e) f = let k = idx_same z S y e in let w : ⊥ = omega arith in absurd w
    by_case (no e) f = let k = idx_other z S y e in idx_other z (S ++ (x ∷ [])) y e ∙ ap suc (f (omega arith))

once_snoc : (S : List ℕ) (x : ℕ) → Once S → idx S x ≡ length S → Once (S ++ (x ∷ []))
unfolding idx
once_snoc [] x none h = one refl none
once_snoc (y ∷ S) x (one k o) h = by_case (ℕ_discrete y x) (λ g. once_snoc S x o g)
  where
    by_case : Dec (y ≡ x) → (idx S x ≡ length S → Once (S ++ (x ∷ []))) → Once (y ∷ (S ++ (x ∷ [])))
    by_case (yes e) f = let m = idx_same y S x e in let w : ⊥ = omega arith in absurd w
    by_case (no e) f = let m = idx_other y S x e in one (out_more S x y k (λ q. e (sym q))) (f (omega arith))

once_add : (S : List ℕ) (x : ℕ) → Once S → Once (add S x)
once_add S x o = by_case (dec_lt (idx S x) (length S))
  where
    by_case : Dec (In S x) → Once (add S x)
    by_case (yes h) = rw (add_in S x h) o
    by_case (no h) = let n : length S ≤ idx S x = omega (arith, h) in let l = idx_le S x in rw (add_new S x n) (once_snoc S x o (omega arith))

once_line : (S : List ℕ) (l : Said) → Once S → Once (add_line S l)
once_line S (arc x y a) o = once_add (add S x) y (once_add S x o)
once_line S (final x) o = once_add S x o

once_from : (S : List ℕ) (ls : List Said) → Once S → Once (names_from S ls)
unfolding names_from
once_from S [] o = o
once_from S (l ∷ ls) o = once_from (add_line S l) ls (once_line S l o)

pub once_names : (ls : List Said) → Once (names ls)
unfolding names
once_names ls = once_from [] ls none
