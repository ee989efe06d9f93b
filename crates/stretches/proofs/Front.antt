-- A buffer that is filled from the front: what stands before `at`, followed by what is still to come, is the whole; the rest is as it was.
-- Said once, for the output, the origins and the account. Assumes nothing.
use Prim.Native.Nat.{ℕ, ◌+◌, ◌≤◌, ◌<◌}
use native.Mathlib.Nat.{add-zero}
use native.Mathlib.Numerals.{add-one}
use native.Mathlib.Omega.{arith}
use mathlib.Core.Path.{◌≡◌, refl, subst, sym, ◌∙◌, ap}
use mathlib.Core.List.{List, [], ◌∷◌, ◌++◌, append_assoc, append-nil}
use lib.ListN.{length, take, drop, set, length-append, length-drop, take-append-drop}
use lib.Seq.{length-take-le, take_at, drop_at, drop-drop, set_split, set-append_seam, append_snoc}
use Rattle.stretches.specs.Buffers.{onto}
use Rattle.stretches.specs.Lists.{put}

pub record Front (l₀ l : List ℕ) (at : ℕ) (more whole : List ℕ) : Type 0 where
  pub within : at ≤ length l
  pub front : take at l ++ more ≡ whole
  pub rest : drop at l ≡ drop at l₀
  pub same : length l ≡ length l₀

pub front_start : (l whole : List ℕ) → Front l l 0 whole whole
front_start l whole = record { within = omega arith; front = refl; rest = refl; same = refl }

-- how much is still to come
pub front_count : (l₀ l : List ℕ) (at : ℕ) (more whole : List ℕ) → Front l₀ l at more whole → at + length more ≡ length whole
front_count l₀ l at more whole was =
    ap (λ (n : ℕ). n + length more) (sym (length-take-le at l was.within)) ∙ sym (length-append (take at l) more) ∙ ap length was.front

module _ (l : List ℕ) (at : ℕ) (v : List ℕ) (fits : at + length v ≤ length l) where
  head_length : length (take at l ++ v) ≡ at + length v
  head_length = length-append (take at l) v ∙ ap (λ (n : ℕ). n + length v) (length-take-le at l (omega arith))

  pub take_put : take (at + length v) (put l at v) ≡ take at l ++ v
  take_put = take_at (take at l ++ v) (drop (at + length v) l) (at + length v) head_length

  pub drop_put_lem : drop (at + length v) (put l at v) ≡ drop (at + length v) l
  drop_put_lem = drop_at (take at l ++ v) (drop (at + length v) l) (at + length v) head_length

  pub length_put : length (put l at v) ≡ length l
  length_put = omega (arith, length-append (take at l ++ v) (drop (at + length v) l), head_length, length-drop (at + length v) l)

pub front_put : (l₀ l : List ℕ) (at : ℕ) (v more whole : List ℕ) → at + length v ≤ length l
    → Front l₀ l at (v ++ more) whole → Front l₀ (put l at v) (at + length v) more whole
front_put l₀ l at v more whole h was =
    record {
      within = omega (arith, length_put l at v h);
      front = rw (take_put l at v h, append_assoc) was.front;
      rest = drop_put_lem l at v h ∙ sym (drop-drop (length v) at l) ∙ ap (λ (r : List ℕ). drop (length v) r) was.rest ∙ drop-drop (length v) at l₀;
      same = length_put l at v h ∙ was.same;
    }

pub front_end : (l₀ l : List ℕ) (at : ℕ) (whole : List ℕ) → Front l₀ l at [] whole → l ≡ onto whole l₀
front_end l₀ l at whole was =
    let e : at ≡ length whole = omega (arith, front_count l₀ l at [] whole was) in
    sym (take-append-drop at l)
    ∙ ap (λ (r : List ℕ). take at l ++ r) was.rest
    ∙ ap (λ (r : List ℕ). r ++ drop at l₀) (sym (append-nil (take at l)) ∙ was.front)
    ∙ ap (λ (n : ℕ). whole ++ drop n l₀) e

-- a part of a buffer that begins at `at`
pub front_begin : (l W : List ℕ) (at : ℕ) → at ≤ length l → Front l l at W (take at l ++ W)
front_begin l W at h = record { within = h; front = refl; rest = refl; same = refl }

module _ (l₀ l W : List ℕ) (at p : ℕ) (h : at ≤ length l₀) where
  whole_length : length (take at l₀ ++ W) ≡ at + length W
  whole_length = length-append (take at l₀) W ∙ ap (λ (n : ℕ). n + length W) (length-take-le at l₀ h)

  pub front_place : (more : List ℕ) → Front l₀ l p more (take at l₀ ++ W) → p + length more ≡ at + length W
  front_place more was = front_count l₀ l p more (take at l₀ ++ W) was ∙ whole_length

  pub front_finish : Front l₀ l p [] (take at l₀ ++ W) → (p ≡ at + length W) × (l ≡ put l₀ at W)
  front_finish was =
      let e = front_place [] was in (omega arith, front_end l₀ l p (take at l₀ ++ W) was ∙ ap (λ (n : ℕ). (take at l₀ ++ W) ++ drop n l₀) whole_length)

-- nothing and one element put
pub put_nil : (l : List ℕ) (p : ℕ) → l ≡ put l p []
put_nil l p = sym (rw (add-zero, append-nil) (take-append-drop p l))

pub put_one_lem : (l : List ℕ) (p x : ℕ) → p < length l → set l p x ≡ put l p (x ∷ [])
put_one_lem l p x h = rw (set_split l p x h, append_snoc, add-one)

-- one list after the other
pub put_both : (l : List ℕ) (at : ℕ) (x y : List ℕ) → at + length (x ++ y) ≤ length l → put (put l at x) (at + length x) y ≡ put l at (x ++ y)
put_both l at x y h =
    let n = length-append x y in
    let whole = take at l ++ (x ++ y) in
    let first = front_put l l at x y whole (omega arith) (front_begin l (x ++ y) at (omega arith)) in
    let room : at + length x + length y ≤ length (put l at x) = omega (arith, length_put l at x (omega arith)) in
    let second =
    front_put l (put l at x) (at + length x) y [] whole room
    (subst (λ (z : List ℕ). Front l (put l at x) (at + length x) z whole) (sym (append-nil y)) first) in
    (front_finish l (put (put l at x) (at + length x) y) (x ++ y) at (at + length x + length y) (omega arith) second).1

-- the last element of what was written, written anew
pub put_last : (l : List ℕ) (at : ℕ) (xs : List ℕ) (z a : ℕ) → at ≤ length l → set (put l at (xs ++ (z ∷ []))) (at + length xs) a ≡ put l at (xs ++ (a ∷ []))
put_last l at xs z a h =
    ap (λ (r : List ℕ). set r (at + length xs) a) (cut z)
    ∙ ap (λ (k : ℕ). set ((take at l ++ xs) ++ (z ∷ rest)) k a) (sym seam)
    ∙ set-append_seam (take at l ++ xs) z rest a
    ∙ sym (cut a)
  where
    rest : List ℕ
    rest = drop (at + (length xs + 1)) l

    seam : length (take at l ++ xs) ≡ at + length xs
    seam = length-append (take at l) xs ∙ ap (λ (n : ℕ). n + length xs) (length-take-le at l h)

    cut : (y : ℕ) → put l at (xs ++ (y ∷ [])) ≡ (take at l ++ xs) ++ (y ∷ rest)
    cut y =
        ap (λ (n : ℕ). (take at l ++ (xs ++ (y ∷ []))) ++ drop (at + n) l) (length-append xs (y ∷ []))
        ∙ ap (λ (r : List ℕ). r ++ rest) (sym (append_assoc (take at l) xs (y ∷ [])))
        ∙ append_assoc (take at l ++ xs) (y ∷ []) rest
