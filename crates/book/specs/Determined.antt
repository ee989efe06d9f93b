-- Document 01, "How tight the promises are": each contract "determines its reply, counts, place and every lent element afterwards, for all
-- inputs". The contract is the function's own as the checker reads it: `Post` of its generated module `Reads`, with the kinds of its parameters
-- and of its result. No contract uses these definitions.
use Rattle.std.specs.Prelude.{ℕ, List, ◌≡◌}
use contract.Lifetimes.{Lfts}
use Rattle.std.specs.Borrow.{Bor}
use seplogic.Ra.Ura.{Ura}
use contract.Monad.{fact}
use denote.Triple.Entry.{Args, Res}
use denote.Triple.Clauses.{Ended, Clauses, Lasts, at_exit}
use borrow.Fn.Kinds.{ParamKind, ResultKind, In, Out, Dens, res_t, ended_of}

-- two ways out that the contract P allows for the same arguments are one: the results are the same, and so is the last value of each parameter
-- that is lent to be written
abbrev pub Determines : (n : ℕ) (ps : List (ParamKind n)) (r : ResultKind n) → ((κs : Lfts n) → (res_t r κs).Denot → (res_t r κs).Denot → Type 0) → Out n ps r → Type 0
Determines n ps r Same P = (κs : Lfts n) (a : Dens κs ps) (x y : (res_t r κs).Denot) (v w : Lasts (ended_of n ps r) κs a)
    → P κs a x (at_exit (ended_of n ps r) κs a v)
    → P κs a y (at_exit (ended_of n ps r) κs a w)
    → Same κs x y × (v ≡ w)

-- of results that are compared whole
abbrev pub Determined : (n : ℕ) (ps : List (ParamKind n)) (r : ResultKind n) → Out n ps r → Type 0
Determined n ps r = Determines n ps r (λ κs x y. x ≡ y)

-- the contract P of a function that is called only where Q holds of the arguments
abbrev pub Called : (n : ℕ) (ps : List (ParamKind n)) (r : ResultKind n) → In n ps → Out n ps r → Out n ps r
Called n ps r Q P κs a x e = Q κs a × P κs a x e

-- of a function that is lent a slice of structs. Its clauses c are taken as the checker has them: what they ensure of a result x and the last values v
-- is just the fact P, and P allows one x and one v
pub record Fixed {M : Type 1} (𝓤 : Ura M) (T : Ended) (c : Clauses 𝓤 T) (κs : Lfts T.signature.lifetimes) (a : Args T.signature κs)
    (g : (c κs a).ghost) : Type 2 where
  pub P : Res T.signature κs → Lasts T κs a → Type 0
  pub ensured : (x : Res T.signature κs) (v : Lasts T κs a) → (c κs a).ensures g x (at_exit T κs a v) ≡ fact 𝓤 (P x v)
  pub one : (x y : Res T.signature κs) (v w : Lasts T κs a) → P x v → P y w → (x ≡ y) × (v ≡ w)

-- parts of a slice: the same place in memory, and the same elements
pub record SamePart (x y : Bor (List ℕ)) : Type 0 where
  pub place : x.ref_ptr ≡ y.ref_ptr
  pub elements : x.now ≡ y.now
