-- `stepping::gather` meets its contract: after i turns what is out is what the first i rules give. Assumes nothing.
use mathlib.Core.Path.{◌≡◌, refl, ap₂}
use Prim.Native.Nat.{ℕ, ◌+◌}
use native.Mathlib.Numerals.{add-one}
use lib.Bits.{bit_or}
use Rattle.sets.specs.Stepping.{gather, joins}
use Rattle.sets.proofs.stepping.gather.Goals as goal

gather-more : (i x out r : ℕ) (S A : ℕ → ℕ) → out ≡ gather i x S A → r ≡ joins x (S i) (A i) → bit_or out r ≡ gather (i + 1) x S A
unfolding gather
gather-more i x out r S A e f = rw add-one (ap₂ bit_or e f)

pub loop-rule-init : goal.loop-rule-init
unfolding gather
loop-rule-init c = refl

pub loop-rule-preserved : goal.loop-rule-preserved
loop-rule-preserved c = gather-more _ _ _ _ _ _ c.loop-rule.invariant c.joins-out.ensures
