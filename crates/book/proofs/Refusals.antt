-- A reason is known by its number, which is never 0: so a result is known by its reply and place and by what it gives where nothing is refused.
-- Assumes nothing.
use Prim.Native.Nat.{ℕ}
use mathlib.Core.Path.{◌≡◌, refl, ap, sym, subst, ◌∙◌}
use mathlib.Core.Bool.{cond}
use lib.Dec.{eqb}
use native.Mathlib.Omega.{arith}
use Rattle.std.specs.Prelude.{Result, Ok, Err, MatchResult, IsErrAnd}
use Rattle.book.specs.declared.replies.Reason.{Reason}
use Rattle.book.specs.declared.replies.Reason.TheVariants.{Cut, UnknownKind, TooMany, NoRule, BadField, BadArc, AfterEnd, LongTape, BadSymbol, ShortWorkspace}
use Rattle.book.specs.declared.replies.Reason.TheVariants.{ShortScratch, ManyLeftSets, ManyRightSets, NoRoom, ManyLanes, Outside, BadLine, BadLabel, NoAcceptor, LargePart}
use Rattle.book.specs.declared.replies.Refusal.{Refusal}
use Rattle.book.specs.declared.Counts.{Counts}
use Rattle.book.specs.declared.Checked.{Checked}
use Rattle.book.specs.Refusals.{number, reply_of, place_of, checked}

pub number_some : (r : Reason) → number r ≡ 0 → ⊥
number_some Cut e = omega arith
number_some UnknownKind e = omega arith
number_some TooMany e = omega arith
number_some NoRule e = omega arith
number_some BadField e = omega arith
number_some BadArc e = omega arith
number_some AfterEnd e = omega arith
number_some LongTape e = omega arith
number_some BadSymbol e = omega arith
number_some ShortWorkspace e = omega arith
number_some ShortScratch e = omega arith
number_some ManyLeftSets e = omega arith
number_some ManyRightSets e = omega arith
number_some NoRoom e = omega arith
number_some ManyLanes e = omega arith
number_some Outside e = omega arith
number_some BadLine e = omega arith
number_some BadLabel e = omega arith
number_some NoAcceptor e = omega arith
number_some LargePart e = omega arith

-- the reason of a number
reason_of : ℕ → Reason
reason_of n =
    cond (eqb n 1) Cut
    (cond (eqb n 2) UnknownKind
    (cond (eqb n 3) TooMany
    (cond (eqb n 4) NoRule
    (cond (eqb n 5) BadField
    (cond (eqb n 6) BadArc
    (cond (eqb n 8) AfterEnd
    (cond (eqb n 9) LongTape
    (cond (eqb n 10) BadSymbol
    (cond (eqb n 11) ShortWorkspace
    (cond (eqb n 12) ShortScratch
    (cond (eqb n 13) ManyLeftSets
    (cond (eqb n 14) ManyRightSets
    (cond (eqb n 15) NoRoom
    (cond (eqb n 16) ManyLanes
    (cond (eqb n 17) Outside
    (cond (eqb n 18) BadLine
    (cond (eqb n 19) BadLabel
    (cond (eqb n 20) NoAcceptor
    LargePart))))))))))))))))))

reason_back : (r : Reason) → reason_of (number r) ≡ r
unfolding reason_of
reason_back Cut = refl
reason_back UnknownKind = refl
reason_back TooMany = refl
reason_back NoRule = refl
reason_back BadField = refl
reason_back BadArc = refl
reason_back AfterEnd = refl
reason_back LongTape = refl
reason_back BadSymbol = refl
reason_back ShortWorkspace = refl
reason_back ShortScratch = refl
reason_back ManyLeftSets = refl
reason_back ManyRightSets = refl
reason_back NoRoom = refl
reason_back ManyLanes = refl
reason_back Outside = refl
reason_back BadLine = refl
reason_back BadLabel = refl
reason_back NoAcceptor = refl
reason_back LargePart = refl

pub number_one : (r q : Reason) → number r ≡ number q → r ≡ q
number_one r q e = sym (reason_back r) ∙ ap reason_of e ∙ reason_back q

pub refusal_one : (e f : Refusal) → number e.reason ≡ number f.reason → e.place ≡ f.place → e ≡ f
refusal_one e f n p = let r = number_one e.reason f.reason n in λ i. record { reason = r i; place = p i }

-- any result: its reply and place, and the values of the two where neither is a refusal
pub result_one : {A : Type 0} → (x y : Result A Refusal) → reply_of x ≡ reply_of y → place_of x ≡ place_of y
    → ((a b : A) → x ≡ Ok a → y ≡ Ok b → a ≡ b) → x ≡ y
result_one (Ok a) (Ok b) n p f = ap Ok (f a b refl refl)
result_one (Ok a) (Err e) n p f = absurd (number_some e.reason (sym n))
result_one (Err e) (Ok b) n p f = absurd (number_some e.reason n)
result_one (Err e) (Err g) n p f = ap Err (refusal_one e g n p)

-- CHECK's answer says all of what was read
pub checked_one : (x y : Result Counts Refusal) → checked x ≡ checked y → x ≡ y
checked_one (Ok c) (Ok d) h = ap Ok (λ i. record { rules = (h i).rules; states = (h i).states; arcs = (h i).arcs })
checked_one (Ok c) (Err e) h = absurd (number_some e.reason (sym (ap (λ (k : Checked). k.reply) h)))
checked_one (Err e) (Ok d) h = absurd (number_some e.reason (ap (λ (k : Checked). k.reply) h))
checked_one (Err e) (Err g) h = ap Err (refusal_one e g (ap (λ (k : Checked). k.reply) h) (ap (λ (k : Checked). k.place) h))

-- a reason that became a refusal: what came of which result
module _ {A : Type 0} (P : Reason → Refusal → Type 0) where
  Placing : Result A Reason → Result A Refusal → Type 0
  Placing x y = MatchResult x (λ u. y ≡ Ok u) (λ r. IsErrAnd y (P r))

  from_ok : (x : Result A Reason) (y : Result A Refusal) → Placing x y → (u : A) → y ≡ Ok u → x ≡ Ok u
  unfolding Placing
  from_ok (Ok v) y p u h = cc
  from_ok (Err r) (Ok v) p u h = absurd p
  from_ok (Err r) (Err e) p u h = let z : ⊥ = cc in absurd z

  from_err : (x : Result A Reason) (y : Result A Refusal) → Placing x y → (e : Refusal) → y ≡ Err e → (r : Reason) × (x ≡ Err r) × P r e
  unfolding Placing
  from_err (Ok v) y p e h = let z : ⊥ = cc in absurd z
  from_err (Err r) (Ok v) p e h = absurd p
  from_err (Err r) (Err f) p e h = (r, refl, (let q : f ≡ e = cc in subst (P r) q p))

  module _ (x : Result A Reason) (y : Result A Refusal) (p : MatchResult x (λ u. y ≡ Ok u) (λ r. IsErrAnd y (P r))) where
    pub placed_ok : (u : A) → y ≡ Ok u → x ≡ Ok u
    unfolding Placing
    placed_ok u h = from_ok x y p u h

    pub placed_err : (e : Refusal) → y ≡ Err e → (r : Reason) × (x ≡ Err r) × P r e
    unfolding Placing
    placed_err e h = from_err x y p e h
