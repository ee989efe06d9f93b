-- The second pass: what stands in the output after the lines that are done.
use Prim.Native.Nat.{ℕ, zero, suc, ◌+◌, ◌*◌, ◌≤◌, ◌<◌}
use mathlib.Core.Path.{◌≡◌, refl, ap, sym, ◌∙◌, subst}
use mathlib.Core.List.{List, [], ◌∷◌, ◌++◌, append_assoc, append-nil}
use mathlib.Core.Bool.{Bool, true, ◌||◌}
use mathlib.Core.Bool as B
use native.Mathlib.Omega.{arith}
use native.Mathlib.Decide.{ℕ_discrete}
use lib.ListN.{length, set, replicate, length-append, length-replicate}
use borrow.Author.Tests.{eq-eqb, ne_eqb}
use Rattle.book.specs.Format.{accept_flag, both_flags}
use Rattle.att.specs.Text.{Said, arc, final, idx, names, state_count, arc_one, arc_count, final_for, is_final, flags_from, flags, state_records}
use Rattle.att.specs.Text.{arc_record, arc_records, written, needed}
use Rattle.att.specs.Survey.{fresh, final_flags}
use Rattle.book.proofs.Idx.{idx_same, idx_other}
use Rattle.att.proofs.Filling.{fresh_more, records_length}
use Rattle.att.proofs.Appearing.{In, Once, one}

final_snoc : (ls : List Said) (l : Said) (q : ℕ) → is_final (ls ++ (l ∷ [])) q ≡ (is_final ls q || final_for l q)
unfolding is_final
final_snoc [] l q = B.or-false (final_for l q)
final_snoc (m ∷ ls) l q = ap (λ (b : Bool). final_for m q || b) (final_snoc ls l q) ∙ sym (B.or_assoc (final_for m q) (is_final ls q) (final_for l q))

-- an arc changes no flag
arc_flag : (ls : List Said) (x y a q : ℕ) → is_final (ls ++ (arc x y a ∷ [])) q ≡ is_final ls q
arc_flag ls x y a q = final_snoc ls (arc x y a) q ∙ B.or-false (is_final ls q)

flags_arc_from : (start : ℕ) (ls : List Said) (x y a : ℕ) (S : List ℕ) → flags_from start (ls ++ (arc x y a ∷ [])) S ≡ flags_from start ls S
flags_arc_from start ls x y a [] = refl
flags_arc_from start ls x y a (q ∷ S) = rw (arc_flag ls x y a q, flags_arc_from 0 ls x y a S)

pub flags_arc : (ls : List Said) (x y a : ℕ) (S : List ℕ) → flags (ls ++ (arc x y a ∷ [])) S ≡ flags ls S
unfolding flags
flags_arc ls x y a [] = refl
flags_arc ls x y a (q ∷ S) = flags_arc_from 1 ls x y a (q ∷ S)

-- a final state's flag
same_flag : (ls : List Said) (x q : ℕ) → (x ≡ q → ⊥) → is_final (ls ++ (final x ∷ [])) q ≡ is_final ls q
same_flag ls x q h = final_snoc ls (final x) q ∙ ap (λ (b : Bool). is_final ls q || b) (ne_eqb x q h) ∙ B.or-false (is_final ls q)

new_flag : (ls : List Said) (x q : ℕ) → x ≡ q → is_final (ls ++ (final x ∷ [])) q ≡ true
new_flag ls x q h = final_snoc ls (final x) q ∙ ap (λ (b : Bool). is_final ls q || b) (eq-eqb x q h) ∙ B.or-true (is_final ls q)

flags_other : (start : ℕ) (ls : List Said) (x : ℕ) (S : List ℕ) → idx S x ≡ length S → flags_from start (ls ++ (final x ∷ [])) S ≡ flags_from start ls S
flags_other start ls x [] h = refl
flags_other start ls x (q ∷ S) h = by_case (ℕ_discrete q x) (λ k. flags_other 0 ls x S k)
  where
    by_case : Dec (q ≡ x) → (idx S x ≡ length S → flags_from 0 (ls ++ (final x ∷ [])) S ≡ flags_from 0 ls S)
        → flags_from start (ls ++ (final x ∷ [])) (q ∷ S) ≡ flags_from start ls (q ∷ S)
    by_case (yes e) f = let k = idx_same q S x e in let w : ⊥ = omega arith in absurd w
    by_case (no e) f = let k = idx_other q S x e in rw (same_flag ls x q (λ z. e (sym z)), f (omega arith))

abbrev mark : ℕ → ℕ → ℕ
mark start zero = start + 2
mark start (suc k) = 2

flags_final_from : (start : ℕ) (ls : List Said) (x : ℕ) (S : List ℕ) → Once S → In S x
    → flags_from start (ls ++ (final x ∷ [])) S ≡ set (flags_from start ls S) (idx S x) (mark start (idx S x))
flags_final_from start ls x [] o h = let w : ⊥ = omega arith in absurd w
flags_final_from start ls x (q ∷ S) (one k o) h = by_case (ℕ_discrete q x) (λ g. flags_final_from 0 ls x S o g)
  where
    tail : (m : ℕ) → mark 0 m ≡ mark start (suc m)
    tail zero = refl
    tail (suc m) = refl

    by_case : Dec (q ≡ x) → (In S x → flags_from 0 (ls ++ (final x ∷ [])) S ≡ set (flags_from 0 ls S) (idx S x) (mark 0 (idx S x)))
        → flags_from start (ls ++ (final x ∷ [])) (q ∷ S) ≡ set (flags_from start ls (q ∷ S)) (idx (q ∷ S) x) (mark start (idx (q ∷ S) x))
    by_case (yes e) f =
        let u : idx S x ≡ length S = subst (λ (z : ℕ). idx S z ≡ length S) e k in
        rw (idx_same q S x e, new_flag ls x q (sym e), flags_other 0 ls x S u)
    by_case (no e) f =
        let m = idx_other q S x e in
        rw (m, same_flag ls x q (λ z. e (sym z)), f (omega arith), tail (idx S x))

pub flags_start : (k : ℕ) → k ≡ 0 → both_flags ≡ final_flags k
unfolding final_flags
flags_start k e = sym (rw (final_flags, eq-eqb k 0 e))

pub flags_later : (k : ℕ) → (k ≡ 0 → ⊥) → accept_flag ≡ final_flags k
unfolding final_flags
flags_later k e = sym (rw (final_flags, ne_eqb k 0 e))

mark_one : (k : ℕ) → mark 1 k ≡ final_flags k
mark_one zero = flags_start 0 refl
mark_one (suc k) = flags_later (suc k) (omega arith)

pub flags_final : (ls : List Said) (x : ℕ) (S : List ℕ) → Once S → In S x → flags (ls ++ (final x ∷ [])) S ≡ set (flags ls S) (idx S x) (final_flags (idx S x))
unfolding flags
flags_final ls x [] o h = let w : ⊥ = omega arith in absurd w
flags_final ls x (q ∷ S) o h = flags_final_from 1 ls x (q ∷ S) o h ∙ ap (set (flags_from 1 ls (q ∷ S)) (idx (q ∷ S) x)) (mark_one (idx (q ∷ S) x))

flags_long_from : (start : ℕ) (ls : List Said) (S : List ℕ) → length (flags_from start ls S) ≡ length S
flags_long_from start ls [] = refl
flags_long_from start ls (q ∷ S) = ap suc (flags_long_from 0 ls S)

flags_zero : (S : List ℕ) → flags_from 0 [] S ≡ replicate (length S) 0
unfolding is_final
flags_zero [] = refl
flags_zero (q ∷ S) = ap (λ (l : List ℕ). 0 ∷ l) (flags_zero S)

pub flags_none : (S : List ℕ) → flags [] S ≡ fresh (length S)
unfolding flags fresh is_final
flags_none [] = refl
flags_none (q ∷ S) = ap (λ (l : List ℕ). 1 ∷ l) (flags_zero S)

pub flags_long : (ls : List Said) (S : List ℕ) → length (flags ls S) ≡ length (fresh (length S))
unfolding flags fresh
flags_long ls [] = refl
flags_long ls (q ∷ S) = ap suc (flags_long_from 0 ls S ∙ sym (length-replicate (length S) 0))

-- arcs
pub arcs_more : (first : ℕ) (S : List ℕ) (ls : List Said) (l : Said) → arc_records first S (ls ++ (l ∷ [])) ≡ arc_records first S ls ++ arc_record first S l
unfolding arc_records
arcs_more first S [] l = append-nil (arc_record first S l)
arcs_more first S (m ∷ ls) l = ap (λ (r : List ℕ). arc_record first S m ++ r) (arcs_more first S ls l)
    ∙ sym (append_assoc (arc_record first S m) (arc_records first S ls) (arc_record first S l))

arc_long : (first : ℕ) (S : List ℕ) (l : Said) → length (arc_record first S l) ≡ 5 * arc_one l
arc_long first S (arc x y a) = refl
arc_long first S (final x) = refl

pub arcs_long : (first : ℕ) (S : List ℕ) (ls : List Said) → length (arc_records first S ls) ≡ 5 * arc_count ls
unfolding arc_records arc_count
arcs_long first S [] = refl
arcs_long first S (l ∷ ls) = let h = arcs_long first S ls in let k = arc_long first S l in let m =
    length-append (arc_record first S l) (arc_records first S ls) in omega arith

pub arcs_append : (ls ms : List Said) → arc_count (ls ++ ms) ≡ arc_count ls + arc_count ms
unfolding arc_count
arcs_append [] ms = omega arith
arcs_append (l ∷ ls) ms = let h = arcs_append ls ms in omega arith

-- a store into the flags of state k
pub set_record : (part : ℕ) (fs R : List ℕ) (k v : ℕ) → k < length fs → set (state_records part fs ++ R) (3 * k + 2) v ≡ state_records part (set fs k v) ++ R
unfolding state_records
set_record part [] R k v h = let w : ⊥ = omega arith in absurd w
set_record part (f ∷ fs) R zero v h = refl
set_record part (f ∷ fs) R (suc k) v h =
    let e : 3 * suc k + 2 ≡ suc (suc (suc (3 * k + 2))) = omega arith in
    rw (e, set_record part fs R k v (omega arith))

-- a state is written for each name
pub names_few : (ls : List Said) → length (names ls) ≤ state_count ls
names_few ls = let a = flags_long ls (names ls) in let b = fresh_more (length (names ls)) in omega arith

pub written_length : (part first : ℕ) (ls : List Said) → length (written part first ls) ≡ needed ls
unfolding written
written_length part first ls = rw (length-append, records_length part (flags ls (names ls)), arcs_long first (names ls) ls) (omega arith)
