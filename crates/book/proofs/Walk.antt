-- A second walk over an accepted book: at each place what the records before it gave, and that the rest gives the whole. Assumes nothing.
use Prim.Native.Nat.{ℕ, zero, suc, ◌+◌, ◌*◌}
use mathlib.Core.Path.{◌≡◌, refl, subst}
use mathlib.Core.List.{List, [], ◌∷◌, ◌++◌}
use mathlib.Core.Bool.{Bool, true, false}
use lib.ListN.{length, length-append}
use lib.Dec.{eqb}
use borrow.Author.Tests.{ne_eqb}
use Rattle.book.specs.Sound.{Sound}
use Rattle.book.proofs.Sound.{keep, none}
use native.Mathlib.Omega.{arith}
use Rattle.book.specs.Format.{rule_kind, state_kind, arc_kind, end_kind, rule_size, state_size, arc_size, byte, record_size, record_reply}
use Rattle.book.specs.Reading.{Book, empty, scan_of, state_at, arc_at, word_at, with_record, accepted, read_from, read_book, check_def, book_of}
use Rattle.book.proofs.Passed.{Passed, passed, kind_rel}
use Rattle.book.proofs.Accepted.{Next, last, more, next, never, is_accepted}

-- the bytes of the records that gave b
abbrev pub bytes_of : Book → ℕ
bytes_of b = rule_size * length b.words + state_size * length b.states + arc_size * length b.arcs

-- the records before `at` gave b, and those from there on make it B
pub record Walk (s : List ℕ) (at : ℕ) (b B : Book) : Type 0 where
  pub fuel : ℕ
  pub rest : read_from fuel s at b ≡ accepted B
  pub sound : Sound b
  pub place : at ≡ bytes_of b

pub walk_start : (s : List ℕ) → (check_def s).reply ≡ 0 → Walk s 0 empty (book_of s)
unfolding read_book
walk_start s z = record { fuel = suc (length s); rest = is_accepted s z; sound = none; place = refl }

-- the bytes of a record
pub more_place : (s : List ℕ) (at : ℕ) (b : Book) (n : ℕ) → (byte s at ≡ end_kind → ⊥) → (record_size (byte s at) ≡ 0 → ⊥)
    → n ≡ bytes_of b
    → n + record_size (byte s at) ≡ bytes_of (with_record s at b)
unfolding with_record record_size
more_place s at b n f known e = go (eqb (byte s at) rule_kind) (eqb (byte s at) state_kind) (eqb (byte s at) arc_kind) refl refl refl
  where
    go : (x y z : Bool) → eqb (byte s at) rule_kind ≡ x → eqb (byte s at) state_kind ≡ y → eqb (byte s at) arc_kind ≡ z
        → n + record_size (byte s at) ≡ bytes_of (with_record s at b)
    go true y z p q r = rw (p, length-append) (omega arith)
    go false true z p q r = rw (p, q, length-append) (omega arith)
    go false false true p q r = rw (p, q, r, length-append) (omega arith)
    go false false false p q r = absurd (known (simp (p, q, r, ne_eqb _ _ f)))

module _ (s : List ℕ) (B : Book) where
  step : (at : ℕ) (b : Book) (n : ℕ) → read_from n s at b ≡ accepted B → (m : ℕ) × Next m s at b B
  unfolding read_from
  step at b zero h = absurd (never _ _ _ h)
  step at b (suc n) h = (n, next n s at b B h)

module _ (s : List ℕ) (at : ℕ) (b B : Book) where
  reply_of : (m : ℕ) → Next m s at b B → record_reply s at (scan_of b) ≡ 0
  reply_of m (last e k l q) = e
  reply_of m (more e k h) = e

  last_of : (m : ℕ) → Next m s at b B → byte s at ≡ end_kind → b ≡ B
  last_of m (last e k l q) f = q
  last_of m (more e k h) f = absurd (k f)

  more_of : (m : ℕ) → Next m s at b B → (byte s at ≡ end_kind → ⊥) → read_from m s (at + record_size (byte s at)) (with_record s at b) ≡ accepted B
  more_of m (last e k l q) f = absurd (f k)
  more_of m (more e k h) f = h

  pub walk_reply : Walk s at b B → record_reply s at (scan_of b) ≡ 0
  walk_reply w = let n = step s B at b w.fuel w.rest in reply_of n.0 n.1

  pub walk_passed : Walk s at b B → Passed s at (scan_of b)
  walk_passed w = passed s at (scan_of b) (walk_reply w)

  pub walk_last : Walk s at b B → byte s at ≡ end_kind → b ≡ B
  walk_last w f = let n = step s B at b w.fuel w.rest in last_of n.0 n.1 f

  pub walk_more : Walk s at b B → (byte s at ≡ end_kind → ⊥) → Walk s (at + record_size (byte s at)) (with_record s at b) B
  walk_more w f =
      let n = step s B at b w.fuel w.rest in
      record {
        fuel = n.0;
        rest = more_of n.0 n.1 f;
        sound = keep s at b (walk_reply w) w.sound;
        place = more_place s at b at f (walk_passed w).known w.place;
      }

-- what holds at a place of the walk, and is kept by each record of it, holds of the whole book
module _ (s : List ℕ) (B : Book) (P : Book → Type 0)
    (kept : (at : ℕ) (b : Book) → Walk s at b B → (byte s at ≡ end_kind → ⊥) → P b → P (with_record s at b)) where
  ind_next : (n at : ℕ) (b : Book) → Sound b → at ≡ bytes_of b → read_from (suc n) s at b ≡ accepted B → Next n s at b B
      → ((at' : ℕ) (b' : Book) → Sound b' → at' ≡ bytes_of b' → read_from n s at' b' ≡ accepted B → P b' → P B)
      → P b → P B
  ind_next n at b o e h (last r k l q) ih p = subst P q p
  ind_next n at b o e h (more r k g) ih p =
      let w : Walk s at b B = record { fuel = suc n; rest = h; sound = o; place = e } in
      let v = walk_more s at b B w k in
      ih _ _ v.sound v.place g (kept at b w k p)

  ind_from : (n at : ℕ) (b : Book) → Sound b → at ≡ bytes_of b → read_from n s at b ≡ accepted B → P b → P B
  unfolding read_from
  ind_from zero at b o e h p = absurd (never _ _ _ h)
  ind_from (suc n) at b o e h p = ind_next n at b o e h (next n s at b B h) (λ at' b' o' e' h' p'. ind_from n at' b' o' e' h' p') p

  pub walk_ind : (at : ℕ) (b : Book) → Walk s at b B → P b → P B
  walk_ind at b w p = ind_from w.fuel at b w.sound w.place w.rest p

-- a state record adds its state, and no other record adds one
module _ (s : List ℕ) (at : ℕ) (b : Book) where
  pub states_more : byte s at ≡ state_kind → (with_record s at b).states ≡ b.states ++ (state_at s at b ∷ [])
  unfolding with_record
  states_more k = rw k

  pub states_same : (byte s at ≡ state_kind → ⊥) → (with_record s at b).states ≡ b.states
  unfolding with_record
  states_same f = kind_rel (λ (x y : Book). x.states ≡ b.states) (byte s at) _ _ _ _ b b b b (λ _. refl) (λ k. absurd (f k)) (λ _. refl) refl

-- an arc record adds its arc, and no other record adds one
module _ (s : List ℕ) (at : ℕ) (b : Book) where
  pub arcs_more : byte s at ≡ arc_kind → (with_record s at b).arcs ≡ b.arcs ++ (arc_at s at ∷ [])
  unfolding with_record
  arcs_more k = rw k

  pub arcs_same : (byte s at ≡ arc_kind → ⊥) → (with_record s at b).arcs ≡ b.arcs
  unfolding with_record
  arcs_same f = kind_rel (λ (x y : Book). x.arcs ≡ b.arcs) (byte s at) _ _ _ _ b b b b (λ _. refl) (λ _. refl) (λ k. absurd (f k)) refl

  pub first_same : (byte s at ≡ rule_kind → ⊥) → (with_record s at b).first ≡ b.first
  unfolding with_record
  first_same f = kind_rel (λ (x y : Book). x.first ≡ b.first) (byte s at) _ _ _ _ b b b b (λ k. absurd (f k)) (λ _. refl) (λ _. refl) refl

  pub first_rule : byte s at ≡ rule_kind → (with_record s at b).first ≡ length b.states
  unfolding with_record
  first_rule k = rw k

  pub words_rule : byte s at ≡ rule_kind → (with_record s at b).words ≡ b.words ++ (word_at s at ∷ [])
  unfolding with_record
  words_rule k = rw k

  pub words_same : (byte s at ≡ rule_kind → ⊥) → (with_record s at b).words ≡ b.words
  unfolding with_record
  words_same f = kind_rel (λ (x y : Book). x.words ≡ b.words) (byte s at) _ _ _ _ b b b b (λ k. absurd (f k)) (λ _. refl) (λ _. refl) refl
