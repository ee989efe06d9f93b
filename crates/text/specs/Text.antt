-- A text that is written out when it is full, and then begins anew at its front. No contract can say what is written out.
use Rattle.std.specs.Prelude.{ℕ, ◌+◌, cond, List, [], ◌∷◌, eqb, length, set}

-- its bytes, and the place of the next
pub record Text : Type 0 where
  pub bytes : List ℕ
  pub used : ℕ

abbrev pub holds : List ℕ → ℕ → Text
holds bytes used = record { bytes = bytes; used = used }

unfoldable pub put_one : Text → ℕ → Text
put_one t b = holds (set t.bytes t.used b) (cond (eqb (t.used + 1) (length t.bytes)) 0 (t.used + 1))

unfoldable pub put_all : Text → List ℕ → Text
put_all t [] = t
put_all t (b ∷ bs) = put_all (put_one t b) bs
