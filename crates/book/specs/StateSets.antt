-- Document 01: "Sets of states are 64-bit numbers, state s worth 2^s."
use Rattle.std.specs.Prelude.{ℕ, zero, suc, ◌+◌, ◌*◌, ◌/◌, ◌%◌, ◌^◌, Bool, cond, eqb}

-- state s is in the set n
unfoldable pub member : ℕ → ℕ → Bool
member n s = eqb (n / 2 ^ s % 2) 1

-- the set of those states below k of which p holds
unfoldable pub encode : (ℕ → Bool) → ℕ → ℕ
encode p zero = 0
encode p (suc k) = cond (p 0) 1 0 + 2 * encode (λ s. p (suc s)) k
