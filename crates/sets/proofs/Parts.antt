-- A part of a list that was lent and is back: the part, and what lies before and after it. Assumes nothing.
use Prim.Native.Nat.{ℕ, ◌+◌, ◌-◌, ◌≤◌, ◌<◌}
use mathlib.Core.Path.{◌≡◌, sym, ap, subst, ◌∙◌}
use mathlib.Core.List.{List, ◌++◌}
use native.Mathlib.Omega.{arith}
use lib.ListN.{length, take, drop, take-append-drop}
use lib.Seq.{take_at, drop_at, length-take-le, drop-drop}
use borrow.Rule.Slice.PartMut.{put_mid, take_put, drop_put, mid_len, same_len_mid}
use Rattle.sets.specs.Numbering.{most_sets, pairs, Table}
use Rattle.sets.specs.Sides.{Numbered, NumberedAt}

module _ (a n : ℕ) (xs ys : List ℕ) (h : a + n ≤ length xs) (l : length ys ≡ n) where
  pub part_before : take a (put_mid a (a + n - a) xs ys) ≡ take a xs
  part_before = take_put a (a + n - a) xs ys (omega arith)

  pub part_after : drop (a + n) (put_mid a (a + n - a) xs ys) ≡ drop (a + n) xs
  part_after = drop_put a (a + n) xs ys (omega arith) h (omega arith)

  pub part_mid : take n (drop a (put_mid a (a + n - a) xs ys)) ≡ ys
  part_mid =
      ap (take n) (drop_at (take a xs) (ys ++ _) a (length-take-le a xs (omega arith))) ∙ take_at ys _ n l

pub part_len : (a n : ℕ) (xs : List ℕ) → a + n ≤ length xs → length (take (a + n - a) (drop a xs)) ≡ n
part_len a n xs h = let q : a + n - a ≡ n = omega arith in mid_len a (a + n) xs h ∙ q

-- the list is as long as it was
pub part_room : (a k m : ℕ) (xs ys : List ℕ) → length ys ≡ length (take k (drop a xs)) → m ≤ length xs → m ≤ length (put_mid a k xs ys)
part_room a k m xs ys l h = subst (λ (n : ℕ). m ≤ n) (sym (same_len_mid a k xs ys l)) h

-- a list from its three pieces
pub three : (a n : ℕ) (xs : List ℕ) → xs ≡ take a xs ++ (take n (drop a xs) ++ drop (a + n) xs)
three a n xs =
    sym (take-append-drop a xs)
    ∙ ap (λ (t : List ℕ). take a xs ++ t) (sym (take-append-drop n (drop a xs)) ∙ ap (λ (t : List ℕ). take n (drop a xs) ++ t) (drop-drop n a xs))

-- one side at its place, from the side in the parts that were lent
pub placed_at : (t : Table) (n a b : ℕ) (R S P Q : List ℕ) → a + pairs ≤ length R → b + most_sets ≤ length S
    → length P ≡ length (take (a + pairs - a) (drop a R)) → length Q ≡ length (take (b + most_sets - b) (drop b S)) → Numbered t n P Q
    → NumberedAt t n a b R S (put_mid a (a + pairs - a) R P) (put_mid b (b + most_sets - b) S Q)
placed_at t n a b R S P Q hr hs kp kq e =
    let lp = kp ∙ part_len a pairs R hr in
    let lq = kq ∙ part_len b most_sets S hs in
    record {
      numbered = rw (part_mid a pairs R P hr lp, part_mid b most_sets S Q hs lq) e;
      rows_before = part_before a pairs R P hr lp;
      rows_after = part_after a pairs R P hr lp;
      sets_before = part_before b most_sets S Q hs lq;
      sets_after = part_after b most_sets S Q hs lq;
    }

-- where there are more sets than the most, nothing is said of the parts
pub numbered_over : (t : Table) (R S : List ℕ) → most_sets < length t.sets → Numbered t (most_sets + 1) R S
numbered_over t R S h =
    record {
      over = λ _. h;
      count = λ l. absurd (let z : ⊥ = omega arith in z);
      rows = λ l. absurd (let z : ⊥ = omega arith in z);
      sets = λ l. absurd (let z : ⊥ = omega arith in z);
    }
