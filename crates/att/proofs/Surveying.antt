-- How far the first pass has come.
use Prim.Native.Nat.{ℕ, zero, suc, ◌+◌, ◌≤◌, ◌<◌}
use Rattle.std.specs.Prelude.{Option, Some, None, Ok, Err}
use Rattle.std.specs.Bool.{MatchBool, then_some}
use Rattle.std.specs.Option.{IfSome, IfNone}
use Rattle.std.proofs.Common.{MutBor}
use mathlib.Core.Bool.{Bool, true, false, not}
use mathlib.Core.Path.{◌≡◌, refl, sym, ◌∙◌, subst}
use mathlib.Core.List.{List, [], ◌∷◌, ◌++◌}
use native.Mathlib.Omega.{arith}
use lib.ListN.{length}
use Rattle.book.specs.Refusals.{number}
use Rattle.book.specs.declared.replies.Refusal.{Refusal}
use Rattle.att.specs.Reading.{line_at}
use Rattle.att.specs.Text.{Said, arc, final, refused, accepted, turn, read_from, read_text, add, add_line, names_from, names, arc_one, arc_count}
use Rattle.att.specs.Survey.{states, Lists, Surveyed}
use Rattle.att.specs.Results.{line_saying}
use Rattle.att.specs.Line.{Line, End, Final, Arc, Faulty}
use Rattle.att.specs.declared.states.Known.{Known}
use Rattle.att.proofs.Good.{Good, good_line}
use Rattle.att.proofs.Names.{add_longer}

-- one line more
pub names_snoc : (S : List ℕ) (ls : List Said) (l : Said) → names_from S (ls ++ (l ∷ [])) ≡ add_line (names_from S ls) l
unfolding names_from
names_snoc S [] l = refl
names_snoc S (m ∷ ls) l = names_snoc (add_line S m) ls l

pub arcs_snoc : (ls : List Said) (l : Said) → arc_count (ls ++ (l ∷ [])) ≡ arc_count ls + arc_one l
unfolding arc_count
arcs_snoc [] l = omega arith
arcs_snoc (m ∷ ls) l = let h = arcs_snoc ls l in omega arith

read_line : (n : ℕ) (s : List ℕ) (at : ℕ) (ls : List Said) (l : Line) → line_at s at ≡ l
    → read_from (suc n) s at ls ≡ turn l at ls (λ (next : ℕ) (more : List Said). read_from n s next more)
unfolding read_from
read_line n s at ls l e = rw (read_from, e)

-- the walk over the lines: what the definition makes of the rest is what it makes of the whole
pub record Walk (s : List ℕ) (at : ℕ) (done : List Said) : Type 0 where
  pub fuel : ℕ
  pub within : at ≤ length s
  pub enough : length s < at + fuel
  pub rest : read_from fuel s at done ≡ read_text s
  pub few : arc_count done ≤ at

pub walk_start : (s : List ℕ) → Walk s 0 []
unfolding read_text arc_count
walk_start s = record { fuel = suc (length s); within = omega arith; enough = omega arith; rest = refl; few = omega arith }

module _ (s : List ℕ) (at : ℕ) (done : List Said) where
  pub walk_end : Walk s at done → line_at s at ≡ End → read_text s ≡ accepted done
  unfolding read_from
  walk_end w e = by_fuel w.fuel w.enough w.rest
    where
      by_fuel : (n : ℕ) → length s < at + n → read_from n s at done ≡ read_text s → read_text s ≡ accepted done
      by_fuel zero h r = sym r
      by_fuel (suc n) h r = sym r ∙ read_line n s at done End e

  pub walk_refused : (r : ℕ) → Walk s at done → line_at s at ≡ Faulty r → read_text s ≡ refused r at
  walk_refused r w e = by_fuel w.fuel w.enough w.rest
    where
      by_fuel : (n : ℕ) → length s < at + n → read_from n s at done ≡ read_text s → read_text s ≡ refused r at
      by_fuel zero h q = let g = w.within in let z : ⊥ = omega arith in absurd z
      by_fuel (suc n) h q = sym q ∙ read_line n s at done (Faulty r) e

  pub walk_final : (x next : ℕ) → Walk s at done → line_at s at ≡ Final x next → Walk s next (done ++ (final x ∷ []))
  walk_final x next w e = by_fuel w.fuel w.enough w.rest (subst (λ (l : Line). Good at (length s) l) e (good_line s at))
    where
      by_fuel : (n : ℕ) → length s < at + n → read_from n s at done ≡ read_text s → (at < next) × (next ≤ length s) → Walk s next (done ++ (final x ∷ []))
      by_fuel zero h q g = let i = w.within in let z : ⊥ = omega arith in absurd z
      by_fuel (suc n) h q g =
          let f = w.few in
          let a = arcs_snoc done (final x) in
          record { fuel = n; within = g.1; enough = omega arith; rest = sym (read_line n s at done (Final x next) e) ∙ q; few = omega arith }

  pub walk_arc : (x y a next : ℕ) → Walk s at done → line_at s at ≡ Arc x y a next → Walk s next (done ++ (arc x y a ∷ []))
  walk_arc x y b next w e = by_fuel w.fuel w.enough w.rest (subst (λ (l : Line). Good at (length s) l) e (good_line s at))
    where
      by_fuel : (n : ℕ) → length s < at + n → read_from n s at done ≡ read_text s → (at < next) × (next ≤ length s) → Walk s next (done ++ (arc x y b ∷ []))
      by_fuel zero h q g = let i = w.within in let z : ⊥ = omega arith in absurd z
      by_fuel (suc n) h q g =
          let f = w.few in
          let a = arcs_snoc done (arc x y b) in
          record { fuel = n; within = g.1; enough = omega arith; rest = sym (read_line n s at done (Arc x y b next) e) ∙ q; few = omega arith }

-- a good line goes on, inside the text
pub final_on : (s : List ℕ) (at x next : ℕ) → line_at s at ≡ Final x next → (at < next) × (next ≤ length s)
final_on s at x next e = subst (λ (l : Line). Good at (length s) l) e (good_line s at)

pub arc_on : (s : List ℕ) (at x y a next : ℕ) → line_at s at ≡ Arc x y a next → (at < next) × (next ≤ length s)
arc_on s at x y a next e = subst (λ (l : Line). Good at (length s) l) e (good_line s at)

pub faulty_some : (s : List ℕ) (at r : ℕ) → line_at s at ≡ Faulty r → r ≡ 0 → ⊥
faulty_some s at r e = subst (λ (l : Line). Good at (length s) l) e (good_line s at)

-- a line that is read: l, with the next one at `next`
pub line_on : (s : List ℕ) (at next : ℕ) (l : Said) → line_saying l next ≡ line_at s at → (at < next) × (next ≤ length s)
line_on s at next (final x) e = final_on s at x next (sym e)
line_on s at next (arc x y a) e = arc_on s at x y a next (sym e)

pub walk_on : (s : List ℕ) (at next : ℕ) (done : List Said) (l : Said) → Walk s at done → line_saying l next ≡ line_at s at → Walk s next (done ++ (l ∷ []))
walk_on s at next done (final x) w e = walk_final s at done x next w (sym e)
walk_on s at next done (arc x y a) w e = walk_arc s at done x y a next w (sym e)

-- the states of a line more
add_line_longer : (S : List ℕ) (l : Said) → length S ≤ length (add_line S l)
add_line_longer S (arc x y a) = let h = add_longer S x in let k = add_longer (add S x) y in omega arith
add_line_longer S (final x) = add_longer S x

pub lists_none : (S : List ℕ) (l : Said) → Lists None S → Lists None (add_line S l)
lists_none S l h = let k = add_line_longer S l in omega arith

pub lists_some : (known : Known) (more : Option Known) (l : Said) → Lists more (add_line (states known) l) → (S : List ℕ) → Lists (Some known) S
    → Lists more (add_line S l)
lists_some known more l h S e = subst (λ (T : List ℕ). Lists more (add_line T l)) e h

pub lists_kept : (P : MutBor Known → Bool → MutBor Known → Type 0) (known taken more : Option Known) (l : Said)
    → IfNone known ((taken ≡ None) × (more ≡ None))
    → IfSome known (λ x. (p q : MutBor Known) × (b : Bool) × (p.now ≡ x) × P p b q
    × MatchBool b ((taken ≡ Some q.now) × (more ≡ None)) ((taken ≡ None) × (more ≡ Some q.now)))
    → ((p q : MutBor Known) (b : Bool) → P p b q → Lists (then_some (not b) q.now) (add_line (states p.now) l))
    → (S : List ℕ) → Lists known S → Lists more (add_line S l)
lists_kept P None taken more l n s f S e = rw n.1 (lists_none S l e)
lists_kept P (Some k) taken more l n (p, q, b, i, h, m) f S e = lists_some k more l (rw (← i) (by_test b (f p q b h) m)) S e
  where
    by_test : (t : Bool) → Lists (then_some (not t) q.now) (add_line (states p.now) l)
        → MatchBool t ((taken ≡ Some q.now) × (more ≡ None)) ((taken ≡ None) × (more ≡ Some q.now)) → Lists more (add_line (states p.now) l)
    by_test true g m = rw m.1 g
    by_test false g m = rw m.1 g

-- the first pass
pub record Pass (s : List ℕ) (at arcs : ℕ) (known : Option Known) : Type 0 where
  pub done : List Said
  pub walk : Walk s at done
  pub count : arcs ≡ arc_count done
  pub lists : Lists known (names done)

pub pass_start : (s : List ℕ) (known : Known) → states known ≡ [] → Pass s 0 0 (Some known)
unfolding names names_from arc_count
pass_start s known e = record { done = []; walk = walk_start s; count = refl; lists = e }

module _ (s : List ℕ) (at arcs : ℕ) (known : Option Known) (p : Pass s at arcs known) where
  -- one line more
  pub pass_more : (l : Said) (next : ℕ) → line_saying l next ≡ line_at s at → (n : ℕ) → n ≡ arcs + arc_one l → (more : Option Known)
      → ((S : List ℕ) → Lists known S → Lists more (add_line S l)) → Pass s next n more
  unfolding names
  pass_more l next e n c more lists =
      record {
        done = p.done ++ (l ∷ []);
        walk = walk_on s at next p.done l p.walk e;
        count = let h = arcs_snoc p.done l in let k = p.count in omega arith;
        lists = rw (names_snoc [] p.done l) (lists _ p.lists);
      }

  pub pass_end : End ≡ line_at s at → Surveyed (read_text s) (Ok (record { arcs = arcs; known = known }))
  pass_end e = rw (walk_end s at p.done p.walk (sym e)) (record { arcs = p.count; lists = p.lists })

  pub pass_refused : (e : Refusal) → Faulty (number e.reason) ≡ line_at s at → e.place ≡ at → Surveyed (read_text s) (Err e)
  pass_refused e f a = rw (walk_refused s at p.done (number e.reason) p.walk (sym f)) (record { reply = refl; place = a })
