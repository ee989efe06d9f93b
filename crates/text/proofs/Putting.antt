-- All bytes of a list are put one after the other, and so are two lists. Assumes nothing.
use Rattle.std.proofs.Common.{ℕ, ◌+◌, ◌<◌, ◌≡◌, List, ◌++◌, length, get_or, take, zero, suc, [], ◌∷◌, refl, add-one, arith}
use Rattle.text.specs.Text.{Text, put_one, put_all}

all_front_suc : (t : Text) (s : List ℕ) (i : ℕ) → i < length s → put_one (put_all t (take i s)) (get_or s i 0) ≡ put_all t (take (suc i) s)
unfolding put_all
all_front_suc t [] i h = absurd (omega arith)
all_front_suc t (b ∷ s) zero h = refl
all_front_suc t (b ∷ s) (suc i) h = all_front_suc (put_one t b) s i (omega arith)

-- the first i bytes, and one more
pub all_front : (t : Text) (s : List ℕ) (i : ℕ) → i < length s → put_one (put_all t (take i s)) (get_or s i 0) ≡ put_all t (take (i + 1) s)
all_front t s i h = rw add-one (all_front_suc t s i h)

-- one list after the other
pub all_append : (t : Text) (a b : List ℕ) → put_all t (a ++ b) ≡ put_all (put_all t a) b
unfolding put_all
all_append t [] b = refl
all_append t (x ∷ a) b = all_append (put_one t x) a b
