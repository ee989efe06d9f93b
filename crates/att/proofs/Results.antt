-- What a `?` that hands a refusal on returns; no refusal has the number 0, and an answer is of one result. Assumes nothing.
use Prim.Native.Nat.{ℕ}
use Rattle.std.specs.Prelude.{Option, Some, None, Result, Ok, Err}
use Rattle.std.specs.Option.{ok_or}
use Rattle.std.specs.Result.{IsErrAnd}
use mathlib.Core.Path.{◌≡◌, refl, ap, sym, ◌∙◌}
use mathlib.Core.List.{List, [], ◌∷◌}
use lib.ListN.{get_or}
use Rattle.book.specs.declared.Written.{Written}
use Rattle.book.specs.declared.replies.Refusal.{Refusal}
use Rattle.att.specs.Results.{written_by}
use native.Mathlib.Omega.{arith}
use Rattle.book.specs.Refusals.{number}
use Rattle.book.specs.declared.replies.Reason.{Reason}
use Rattle.book.specs.declared.replies.Reason.TheVariants.{Cut, UnknownKind, TooMany, NoRule, BadField, BadArc, AfterEnd, LongTape, BadSymbol, ShortWorkspace}
use Rattle.book.specs.declared.replies.Reason.TheVariants.{ShortScratch, ManyLeftSets, ManyRightSets, NoRoom, ManyLanes, Outside, BadLine, BadLabel, NoAcceptor, LargePart}

pub passed_on : {T E : Type 0} (r : Result T E) (e : E) → IsErrAnd r (λ x. x ≡ e) → r ≡ Err e
passed_on (Err x) e h = ap Err h
passed_on (Ok v) e h = absurd h

-- what `ok_or` refuses with
pub refused_by : {T E : Type 0} (o : Option T) (e d : E) → o ≡ None → Err e ≡ ok_or o d → e ≡ d
refused_by (Some v) e d n h = cc
refused_by None e d n h = cc

pub some_number : (r : Reason) → number r ≡ 0 → ⊥
some_number Cut e = omega arith
some_number UnknownKind e = omega arith
some_number TooMany e = omega arith
some_number NoRule e = omega arith
some_number BadField e = omega arith
some_number BadArc e = omega arith
some_number AfterEnd e = omega arith
some_number LongTape e = omega arith
some_number BadSymbol e = omega arith
some_number ShortWorkspace e = omega arith
some_number ShortScratch e = omega arith
some_number ManyLeftSets e = omega arith
some_number ManyRightSets e = omega arith
some_number NoRoom e = omega arith
some_number ManyLanes e = omega arith
some_number Outside e = omega arith
some_number BadLine e = omega arith
some_number BadLabel e = omega arith
some_number NoAcceptor e = omega arith
some_number LargePart e = omega arith

-- a number is of one reason
reasons : List Reason
reasons =
    Cut ∷ Cut ∷ UnknownKind ∷ TooMany ∷ NoRule ∷ BadField ∷ BadArc ∷ Cut ∷ AfterEnd ∷ LongTape ∷ BadSymbol ∷
    ShortWorkspace ∷ ShortScratch ∷ ManyLeftSets ∷ ManyRightSets ∷ NoRoom ∷ ManyLanes ∷ Outside ∷ BadLine ∷ BadLabel ∷ NoAcceptor ∷ LargePart ∷ []

reason_back : (r : Reason) → get_or reasons (number r) Cut ≡ r
unfolding reasons
reason_back Cut = refl
reason_back UnknownKind = refl
reason_back TooMany = refl
reason_back NoRule = refl
reason_back BadField = refl
reason_back BadArc = refl
reason_back AfterEnd = refl
reason_back LongTape = refl
reason_back BadSymbol = refl
reason_back ShortWorkspace = refl
reason_back ShortScratch = refl
reason_back ManyLeftSets = refl
reason_back ManyRightSets = refl
reason_back NoRoom = refl
reason_back ManyLanes = refl
reason_back Outside = refl
reason_back BadLine = refl
reason_back BadLabel = refl
reason_back NoAcceptor = refl
reason_back LargePart = refl

number_same : (r s : Reason) → number r ≡ number s → r ≡ s
number_same r s e = sym (reason_back r) ∙ ap (λ (n : ℕ). get_or reasons n Cut) e ∙ reason_back s

-- an answer is of one result
pub written_same : (r s : Result ℕ Refusal) → written_by r ≡ written_by s → r ≡ s
written_same (Ok n) (Ok m) e = ap Ok (ap (λ (w : Written). w.length) e)
written_same (Ok n) (Err d) e = absurd (some_number d.reason (sym (ap (λ (w : Written). w.reply) e)))
written_same (Err c) (Ok m) e = absurd (some_number c.reason (ap (λ (w : Written). w.reply) e))
written_same (Err c) (Err d) e =
    let f = number_same c.reason d.reason (ap (λ (w : Written). w.reply) e) in
    let g = ap (λ (w : Written). w.place) e in
    ap Err (λ i. record { reason = f i; place = g i })
