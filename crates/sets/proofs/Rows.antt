-- The steps of a set on all symbols in one row: an arc's bit is spread over its symbols, so that it adds its hop on each; and the steps of a row that is
-- made, closed, are the sets that follow. Assumes nothing.
use Prim.Native.Nat.{ℕ, ◌+◌, ◌*◌, ◌/◌, ◌%◌, ◌^◌, ◌≤◌, ◌<◌}
use mathlib.Core.Path.{◌≡◌, refl, ap, ap₂, sym, ◌∙◌}
use mathlib.Core.Logic.{◌≢◌}
use mathlib.Core.Bool.{Bool, true, false, cond, ◌&&◌}
use mathlib.Core.List.{List}
use native.Mathlib.Decide.{ℕ_discrete, dec_lt}
use native.Mathlib.Omega.{arith}
use lib.Dec.{leb, ltb}
use lib.Bits.{bit_or, bit_and, or_zero_r}
use lib.ListN.{length, get_or, set, replicate, length-set}
use lib.Seq.{get_or-set_same, get_or-set_other}
use borrow.Author.Tests.{le-leb, lt-leb, lt-ltb, ltb-true}
use Rattle.book.specs.Format.{from_at, to_at, low_at, high_at, symbol_count, most_rules, most_states, byte}
use Rattle.book.specs.Reading.{Book}
use Rattle.book.specs.Outline.{left_starts, right_accepts, right_starts, focus_accepts, Masked}
use Rattle.book.specs.Sound.{Sound}
use Rattle.book.proofs.Bits.{worth}
use Rattle.book.proofs.Pad.{zeros}
use Rattle.sets.specs.Stepping.{hop_fold, step_arcs, arc_bytes, between, Added, gather, side_arcs, close_by}
use Rattle.sets.specs.Sides.{back, source, target, side_first, side_step}
use Rattle.sets.specs.Making.{Making, Adds, Empty}
use Rattle.sets.specs.declared.sides.Side.{Side}
use Rattle.sets.specs.declared.sides.Side.TheVariants.{Left, Right}
use Rattle.sets.proofs.Sweep.{held, not_held}
use Rattle.sets.proofs.Closing.{left_first_lem, left_next_lem, right_last_lem, right_prev_lem}

-- ---- one arc's symbols

-- the symbols that are left: none past the last, the next one, and the same others after it
between_none : (low high bit a : ℕ) → high < low → between low high bit a ≡ 0
unfolding between
between_none low high bit a h = go (dec_lt high a)
  where
    go : Dec (high < a) → cond (leb low a && leb a high) bit 0 ≡ 0
    go (yes l) = cut (leb low a) (leb a high) (lt-leb a high l)
      where
        cut : (p q : Bool) → q ≡ false → cond (p && q) bit 0 ≡ 0
        cut true q e = ap (λ (b : Bool). cond b bit 0) e
        cut false q e = refl
    go (no l) = ap (λ (b : Bool). cond (b && leb a high) bit 0) (lt-leb low a (omega arith))

between_here : (low high bit : ℕ) → low ≤ high → between low high bit low ≡ bit
unfolding between
between_here low high bit h = simp (le-leb low low (omega arith), le-leb low high h)

between_past : (low high bit : ℕ) → between (low + 1) high bit low ≡ 0
unfolding between
between_past low high bit = ap (λ (b : Bool). cond (b && leb low high) bit 0) (lt-leb (low + 1) low (omega arith))

between_other : (low high bit a : ℕ) → a ≢ low → between (low + 1) high bit a ≡ between low high bit a
unfolding between
between_other low high bit a h = ap (λ (b : Bool). cond (b && leb a high) bit 0) (go (dec_lt low a))
  where
    go : Dec (low < a) → leb (low + 1) a ≡ leb low a
    go (yes l) = le-leb (low + 1) a (omega arith) ∙ sym (le-leb low a (omega arith))
    go (no l) = lt-leb (low + 1) a (omega arith) ∙ sym (lt-leb low a (omega (arith, h)))

-- the loop over an arc's symbols, before symbol i: what is done and what is left make the whole
pub record Spreading (low high bit : ℕ) (row₀ row : List ℕ) (i : ℕ) : Type 0 where
  pub long : length row ≡ symbol_count
  pub each : (a : ℕ) → a < symbol_count → bit_or (get_or row a 0) (between i high bit a) ≡ bit_or (get_or row₀ a 0) (between low high bit a)

pub spread_turn : (low high bit : ℕ) (row₀ row : List ℕ) (i : ℕ) → Spreading low high bit row₀ row i → i ≤ high → high < symbol_count
    → Spreading low high bit row₀ (set row i (bit_or (get_or row i 0) bit)) (i + 1)
spread_turn low high bit row₀ row i w h l =
    record {
      long = length-set row i (bit_or (get_or row i 0) bit) ∙ w.long;
      each = λ a g. one a g (ℕ_discrete a i) ∙ w.each a g;
    }
  where
    one : (a : ℕ) → a < symbol_count → Dec (a ≡ i)
        → bit_or (get_or (set row i (bit_or (get_or row i 0) bit)) a 0) (between (i + 1) high bit a) ≡ bit_or (get_or row a 0) (between i high bit a)
    one a g (yes e) =
        rw e
        (ap (λ (x : ℕ). bit_or x (between (i + 1) high bit i)) (get_or-set_same row i (bit_or (get_or row i 0) bit) 0 (omega (arith, w.long)))
        ∙ ap (bit_or (bit_or (get_or row i 0) bit)) (between_past i high bit)
        ∙ or_zero_r (bit_or (get_or row i 0) bit)
        ∙ ap (bit_or (get_or row i 0)) (sym (between_here i high bit h)))
    one a g (no f) =
        ap (λ (x : ℕ). bit_or x (between (i + 1) high bit a)) (get_or-set_other row i a (bit_or (get_or row i 0) bit) 0 f)
        ∙ ap (bit_or (get_or row a 0)) (between_other i high bit a f)

pub spread_end : (low high bit : ℕ) (row₀ row : List ℕ) (i : ℕ) → Spreading low high bit row₀ row i → high < i → Added (between low high bit) row₀ row
spread_end low high bit row₀ row i w h =
    record {
      long = w.long;
      each = λ a l. sym (or_zero_r (get_or row a 0)) ∙ ap (bit_or (get_or row a 0)) (sym (between_none i high bit a h)) ∙ w.each a l;
    }

-- an arc from a state of the set adds its bit on its symbols, another one nothing: the arc's two ends stand at the bytes p and q
abbrev pub made : Side → ℕ → List ℕ → Making
made side set steps = record { side = side; set = set; on = λ a. ltb a symbol_count; so_far = λ a. get_or steps a 0 }

module _ (s : List ℕ) (at : ℕ) (side : Side) (set p q : ℕ) (row : List ℕ) where
  pub add_held : (row' : List ℕ) → p ≡ source side → q ≡ target side → byte s (at + target side) < most_states
      → bit_and (set / 2 ^ byte s (at + p)) 1 ≢ 0
      → Added (between (byte s (at + low_at)) (byte s (at + high_at)) (1 * 2 ^ byte s (at + q) % 2 ^ 64)) row row'
      → Adds (hop_fold (arc_bytes (source side) (target side) s at) set) (made side set row) (made side set row')
  unfolding between hop_fold
  add_held row' e f h n w =
      record {
        side = refl;
        set = refl;
        on = refl;
        each =
            λ a l. w.each a (ltb-true a symbol_count l)
            ∙ ap (bit_or (get_or row a 0))
            (ap₂ (λ (b : Bool) (n : ℕ). cond (b && (leb (byte s (at + low_at)) a && leb a (byte s (at + high_at)))) n 0)
            (sym (held set (byte s (at + source side)) (rw e at n)))
            (ap (λ (k : ℕ). 1 * 2 ^ byte s (at + k) % 2 ^ 64) f ∙ worth (byte s (at + target side)) h));
      }

  pub add_free : p ≡ source side → bit_and (set / 2 ^ byte s (at + p)) 1 ≡ 0
      → Adds (hop_fold (arc_bytes (source side) (target side) s at) set) (made side set row) (made side set row)
  unfolding hop_fold
  add_free e z =
      record {
        side = refl;
        set = refl;
        on = refl;
        each =
            λ a l. sym (ap (λ (b : Bool). bit_or (get_or row a 0) (cond (b && (leb (byte s (at + low_at)) a && leb a (byte s (at + high_at)))) (2 ^ byte s (at + target side)) 0))
            (not_held set (byte s (at + source side)) (rw e at z)) ∙ or_zero_r (get_or row a 0));
      }

-- a row of zeros
pub blank : (side : Side) (set : ℕ) → Empty (made side set (replicate symbol_count 0))
blank side set a h = zeros symbol_count a

-- what becomes of a step on either side
module _ (masks : List ℕ) (side : Side) (x : ℕ) where
  pub close_right : (given : ℕ) → side ≡ Right
      → given ≡ gather most_rules (bit_or (get_or masks right_accepts 0) x) (λ r. get_or masks (right_starts r) 0) (λ r. get_or masks (focus_accepts r) 0)
      → bit_or (bit_or (get_or masks right_accepts 0) x) given ≡ close_by masks (back side) x
  unfolding close_by
  close_right given e f = rw e (ap (bit_or (bit_or (get_or masks right_accepts 0) x)) f)

  pub close_left : side ≡ Left → bit_or (get_or masks left_starts 0) x ≡ close_by masks (back side) x
  unfolding close_by
  close_left e = rw e

-- it is the side's set: after no symbol, and after one more
module _ (b : Book) (o : Sound b) (masks : List ℕ) (m : Masked b.states masks) where
  pub close_first : (back : Bool) → close_by masks back 0 ≡ side_first b back
  unfolding close_by side_first
  close_first true =
      right_last_lem b (bit_or (get_or masks right_accepts 0) 0) _ _ o
      (or_zero_r (get_or masks right_accepts 0) ∙ m.right_accepts_lem) m.right_starts_lem m.focus_accepts_lem
  close_first false = or_zero_r (get_or masks left_starts 0) ∙ m.left_starts_lem ∙ left_first_lem b o

  pub close_step : (back : Bool) (x a : ℕ) → close_by masks back (side_arcs back b.arcs x a) ≡ side_step b back x a
  unfolding close_by side_arcs side_step
  close_step true x a =
      right_prev_lem b x a (bit_or (get_or masks right_accepts 0) (step_arcs to_at from_at b.arcs x a)) _ _ o
      (ap (λ (y : ℕ). bit_or y (step_arcs to_at from_at b.arcs x a)) m.right_accepts_lem) m.right_starts_lem m.focus_accepts_lem
  close_step false x a = ap (λ (y : ℕ). bit_or y (step_arcs from_at to_at b.arcs x a)) m.left_starts_lem ∙ left_next_lem b x a o

  along : (side : Side) (x a : ℕ) → step_arcs (source side) (target side) b.arcs x a ≡ side_arcs (back side) b.arcs x a
  unfolding side_arcs
  along Left x a = refl
  along Right x a = refl

  -- a row that is made: its steps, closed, are the sets that follow
  pub close_row : (side : Side) (x : ℕ) (row : List ℕ)
      → ((a : ℕ) → ltb a symbol_count ≡ true → get_or row a 0 ≡ step_arcs (source side) (target side) b.arcs x a)
      → (a : ℕ) → a < symbol_count → close_by masks (back side) (get_or row a 0) ≡ side_step b (back side) x a
  close_row side x row w a h = ap (close_by masks (back side)) (w a (lt-ltb a symbol_count h) ∙ along side x a) ∙ close_step (back side) x a
