-- The remembered steps: those of the empty set at first, one more with each step that is computed; and the step that is cut to the right set.
-- Assumes nothing.
use Prim.Native.Nat.{ℕ, ◌<◌}
use mathlib.Core.Path.{◌≡◌, sym, ap, ap₂, ◌∙◌}
use mathlib.Core.List.{List}
use native.Mathlib.Omega.{arith}
use native.Mathlib.Decide.{ℕ_discrete}
use lib.Bits.{bit_and}
use lib.ListN.{get_or, set, replicate, length-set, length-replicate, get_or-replicate}
use lib.Seq.{get_or-set_same, get_or-set_other}
use Rattle.book.specs.Reading.{Book, check_def, book_of}
use Rattle.book.proofs.Claims.{sound}
use Rattle.sets.specs.Focus.{focus_step, focus_next}
use Rattle.sets.proofs.Meaning as Meaning
use Rattle.sets.proofs.Meaning.{step_none}
use Rattle.stretches.specs.Ready.{slot_count, Remembers}
use Rattle.stretches.specs.declared.steps.Steps.{Steps}

-- the steps of the empty set
zero_at : (n k : ℕ) → k < n → get_or (replicate {A = ℕ} n 0) k 0 ≡ 0
zero_at n k h = get_or-replicate {A = ℕ} n k 0 0 h

abbrev pub no_steps : Steps
no_steps = record { before = replicate slot_count 0; after = replicate slot_count 0; symbols = replicate slot_count 0 }

pub remembers_start : (b : Book) → Remembers b no_steps
remembers_start b = record {
  before_room = length-replicate {A = ℕ} slot_count 0;
  after_room = length-replicate {A = ℕ} slot_count 0;
  symbols_room = length-replicate {A = ℕ} slot_count 0;
  step = λ k h. zero_at slot_count k h ∙ sym (ap₂ (focus_step b) (zero_at slot_count k h) (zero_at slot_count k h) ∙ step_none b 0);
}

-- a step of this set on this symbol is found
pub remembers_seen : (b : Book) (s : Steps) (k x a : ℕ) → Remembers b s → k < slot_count → get_or s.before k 0 ≡ x → get_or s.symbols k 0 ≡ a
    → get_or s.after k 0 ≡ focus_step b x a
remembers_seen b s k x a was h e f = was.step k h ∙ ap₂ (focus_step b) e f

-- one is put in its place
module _ (b : Book) (s : Steps) (k x a y : ℕ) (was : Remembers b s) (h : k < slot_count) (e : y ≡ focus_step b x a) where
  pub remembers_put : Remembers b (record { before = set s.before k x; after = set s.after k y; symbols = set s.symbols k a })
  remembers_put = record {
    before_room = length-set s.before k x ∙ was.before_room;
    after_room = length-set s.after k y ∙ was.after_room;
    symbols_room = length-set s.symbols k a ∙ was.symbols_room;
    step = λ m l. one m l (ℕ_discrete m k);
  }
    where
      one : (m : ℕ) → m < slot_count → Dec (m ≡ k)
          → get_or (set s.after k y) m 0 ≡ focus_step b (get_or (set s.before k x) m 0) (get_or (set s.symbols k a) m 0)
      one m l (yes z) =
          rw z (get_or-set_same s.after k y 0 (omega (arith, was.after_room))
          ∙ e
          ∙ sym (ap₂ (focus_step b) (get_or-set_same s.before k x 0 (omega (arith, was.before_room)))
          (get_or-set_same s.symbols k a 0 (omega (arith, was.symbols_room)))))
      one m l (no z) =
          get_or-set_other s.after k m y 0 z
          ∙ was.step m l
          ∙ sym (ap₂ (focus_step b) (get_or-set_other s.before k m x 0 z) (get_or-set_other s.symbols k m a 0 z))

-- the step of the focus, cut to the right set
pub step_pruned : (book : List ℕ) → (check_def book).reply ≡ 0 → (F a R x : ℕ) → x ≡ focus_step (book_of book) F a → bit_and x R ≡ focus_next (book_of book) F a R
step_pruned book h F a R x e = ap (λ (y : ℕ). bit_and y R) e ∙ Meaning.step_pruned (book_of book) (sound book h) F a R
