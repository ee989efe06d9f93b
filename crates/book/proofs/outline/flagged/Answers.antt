-- `outline::flagged` meets its contract: the flag decides, then the flags. Assumes nothing.
use Prim.Native.Nat.{ℕ, ◌≤◌}
use mathlib.Core.Path.{◌≡◌, ◌∙◌, sym}
use mathlib.Core.Logic.{◌⊎◌, inl, inr, ⊎_elim}
use mathlib.Core.Bool.{true, false, ◌||◌, and-false}
use lib.Dec.{eqb}
use borrow.Author.Tests.{ne_eqb}
use native.Mathlib.Decide.{ℕ_discrete}
use native.Mathlib.Omega.{arith}
use Rattle.book.specs.Format.{start_flag, accept_flag, both_flags}
use Rattle.book.specs.Language.{flagged}
use Rattle.book.proofs.outline.flagged.Goals as goal

module _ (flag flags : ℕ) where
  starts : flag ≡ start_flag → (flags ≡ start_flag) ⊎ (flags ≡ both_flags) → true ≡ flagged flag flags
  unfolding flagged
  starts e (inl f) = rw (e, f)
  starts e (inr f) = rw (e, f)

  accepts : flag ≡ accept_flag → accept_flag ≤ flags → flags ≤ both_flags → true ≡ flagged flag flags
  unfolding flagged
  accepts e l h = go (ℕ_discrete flags accept_flag)
    where
      go : Dec (flags ≡ accept_flag) → true ≡ flagged flag flags
      go (yes f) = rw (e, f)
      go (no f) = let g : flags ≡ both_flags = omega (arith, f) in rw (e, g)

  neither : (flags ≡ flag → ⊥) → (flags ≡ both_flags → ⊥) → false ≡ flagged flag flags
  unfolding flagged
  neither f g = rw (ne_eqb _ _ f, ne_eqb _ _ g) (sym (and-false (eqb flag start_flag || eqb flag accept_flag)))

  no_flag : (flag ≡ start_flag → ⊥) → (flag ≡ accept_flag → ⊥) → false ≡ flagged flag flags
  unfolding flagged
  no_flag f g = simp (ne_eqb _ _ f, ne_eqb _ _ g)

pub returns-in-1-flags : goal.returns-in-1-flags
returns-in-1-flags c = starts _ _ c.in-1.is c.in-1-flags.is

pub returns-in-0-flags : goal.returns-in-0-flags
returns-in-0-flags c = neither _ _ (λ z. ⊎_elim (λ h. omega arith) (λ h. omega arith) c.in-0-flags.is) (λ z. ⊎_elim (λ h. omega arith) (λ h. omega arith) c.in-0-flags.is)

pub returns-in-4-to-255 : goal.returns-in-4-to-255
returns-in-4-to-255 c = neither _ _ (λ z. c.in-4-to-255.in-4-to-255-own.rest.0.1 (inl (z ∙ c.in-1.is))) (λ z. c.in-4-to-255.in-4-to-255-own.rest.0.1 (inr z))

pub returns-in-0-flags-2 : goal.returns-in-0-flags-2
returns-in-0-flags-2 c = neither c.args.flag c.args.flags (λ z. omega arith) (λ z. omega arith)

pub returns-in-2-flags : goal.returns-in-2-flags
returns-in-2-flags c = accepts c.args.flag c.args.flags c.in-2.is (omega arith) (omega arith)

pub returns-in-4-to-255-flags : goal.returns-in-4-to-255-flags
returns-in-4-to-255-flags c = neither c.args.flag c.args.flags (λ z. omega arith) (λ z. omega arith)

pub returns-in-0 : goal.returns-in-0
returns-in-0 c = no_flag c.args.flag c.args.flags (λ z. omega arith) (λ z. omega arith)

pub returns-in-0-2 : goal.returns-in-0-2
returns-in-0-2 c = no_flag _ _ c.in-0.in-0-own.rest.0.0.1 c.in-0.in-0-own.rest.0.1
