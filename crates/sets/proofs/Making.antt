-- A step while it is made: each arc record read adds its hop, and the records of a rule are read once for all its states in the set. What Sweep says
-- of one symbol is said here of each symbol that the step is made on. Assumes nothing.
use Prim.Native.Nat.{ℕ, ◌+◌, ◌-◌, ◌^◌, ◌<◌}
use mathlib.Core.Path.{◌≡◌, refl, ap, sym, subst, ◌∙◌}
use mathlib.Core.Logic.{◌⊎◌}
use mathlib.Core.Bool.{Bool, true}
use mathlib.Core.List.{List}
use native.Mathlib.Omega.{arith}
use lib.Bits.{bit_or, or_zero_r, and_lt}
use lib.Count.{count_trailing_zeros}
use Rattle.book.specs.Format.{arc_size, state_size, arc_kind, state_kind, rule_kind, end_kind, most_states, byte, record_size}
use Rattle.book.specs.Reading.{Arc, Book, arc_at, book_of, check_def}
use Rattle.book.specs.Language.{state_of}
use Rattle.book.proofs.Bits.{or_assoc, without}
use Rattle.sets.specs.Stepping.{hop_fold, is_end, step_arcs, arc_bytes, SweptAll, ArcStands}
use Rattle.sets.specs.Sides.{source, target}
use Rattle.sets.specs.Making.{Making, Adds, Sweeps, Empty, Made}
use Rattle.sets.specs.declared.sides.Side.{Side}
use Rattle.sets.specs.declared.sides.Side.TheVariants.{Left, Right}
use Rattle.sets.proofs.Ends.{end_is, end_byte, end_small, turned_bytes}
use Rattle.sets.proofs.Sweep.{Sweeping, Stepping, sweep_start, sweep_ends, sweep_arc, sweep_turn_arc, sweep_turn_state, sweep_end, sweep_none}
use Rattle.sets.proofs.Sweep.{stepping_start, stepping_end, turn_done, turn_none, turn_swept}

-- the two bytes of a side name states
pub source_end : (side : Side) → is_end (source side) ≡ true
unfolding is_end
source_end Left = refl
source_end Right = refl

pub target_end : (side : Side) → is_end (target side) ≡ true
unfolding is_end
target_end Left = refl
target_end Right = refl

adds_none : (m : Making) → Adds (λ a. 0) m m
adds_none m = record { side = refl; set = refl; on = refl; each = λ a h. sym (or_zero_r (m.so_far a)) }

adds_then : (f g : ℕ → ℕ) (m m' m'' : Making) → Adds f m m' → Adds g m' m'' → Adds (λ a. bit_or (f a) (g a)) m m''
adds_then f g m m' m'' v w =
    record {
      side = w.side ∙ v.side;
      set = w.set ∙ v.set;
      on = w.on ∙ v.on;
      each =
          λ a h. w.each a (ap (λ (on : ℕ → Bool). on a) v.on ∙ h)
          ∙ ap (λ (x : ℕ). bit_or x (g a)) (v.each a h)
          ∙ or_assoc (m.so_far a) (f a) (g a);
    }

-- how far the loop over the rule's records has come
pub record Reading (s : List ℕ) (B : Book) (state at next : ℕ) (m m' : Making) : Type 0 where
  pub more : ℕ → ℕ
  pub sweeping : (a : ℕ) → Sweeping (source m.side) (target m.side) s B state m.set a (more a) at next
  pub added : Adds more m m'

-- how far the loop over the states has come
pub record Picking (arcs : List Arc) (left done : ℕ) (m m' : Making) : Type 0 where
  pub small : left < 2 ^ 64
  pub side : m'.side ≡ m.side
  pub set : m'.set ≡ m.set
  pub on : m'.on ≡ m.on
  pub each : (a : ℕ) → m.on a ≡ true → Stepping (source m.side) (target m.side) arcs m.set a left (m'.so_far a) done

pub reading_start : (s : List ℕ) (state place : ℕ) (m : Making) → (check_def s).reply ≡ 0 → place ≡ (state_of (book_of s) state).place → 0 < place
    → Reading s (book_of s) state (place + state_size) (state + 1) m m
reading_start s state place m z e h =
    record {
      more = λ a. 0;
      sweeping = λ a. sweep_start (source m.side) (target m.side) s state place m.set a z e h;
      added = adds_none m;
    }

module _ (s : List ℕ) (B : Book) (state at next : ℕ) (m m' : Making) (i : Reading s B state at next m m') where
  -- the records are the same for each symbol
  pub on_zero : Sweeping (source m.side) (target m.side) s B state m.set 0 (i.more 0) at next
  on_zero = i.sweeping 0

  pub record_stands : byte s at ≡ arc_kind → ArcStands s at (source m'.side) (target m'.side)
  record_stands k =
      let p = source m.side in
      let q = target m.side in
      let e = source_end m.side in
      let f = target_end m.side in
      let x = arc_at s at in
      let w = sweep_arc p q s B state m.set 0 (i.more 0) at next on_zero k in
      subst (λ (side : Side). ArcStands s at (source side) (target side)) (sym i.added.side)
      (record {
        whole = w.0;
        ends = (end_small p e, end_small q f);
        source = subst (λ (n : ℕ). n < most_states) (end_byte p s at e) (end_is (λ (n : ℕ). n < most_states) p x w.1.0 w.1.1);
        target = subst (λ (n : ℕ). n < most_states) (end_byte q s at f) (end_is (λ (n : ℕ). n < most_states) q x w.1.0 w.1.1);
        top = (sweep_ends p q s B state m.set 0 (i.more 0) at next on_zero k).top;
      })

  pub reading_arc : (m'' : Making) → byte s at ≡ arc_kind → Adds (hop_fold (arc_bytes (source m'.side) (target m'.side) s at) m'.set) m' m''
      → Reading s B state (at + arc_size) next m m''
  reading_arc m'' k w =
      let p = source m.side in
      let q = target m.side in
      let hop : ℕ → ℕ = λ a. hop_fold (arc_bytes (source m'.side) (target m'.side) s at) m'.set a in
      record {
        more = λ a. bit_or (i.more a) (hop a);
        sweeping =
            λ a. sweep_turn_arc p q s B state m.set a (i.more a) at next (i.sweeping a) (hop a) k
            ((λ j. hop_fold (arc_bytes (source (i.added.side j)) (target (i.added.side j)) s at) (i.added.set j) a)
            ∙ ap (λ (x : Arc). hop_fold x m.set a) (sym (turned_bytes p q s at (source_end m.side) (target_end m.side))));
        added = adds_then i.more hop m m' m'' i.added w;
      }

  pub reading_state : byte s at ≡ state_kind → Reading s B state (at + state_size) (next + 1) m m'
  reading_state k =
      record {
        more = i.more;
        sweeping = λ a. sweep_turn_state (source m.side) (target m.side) s B state m.set a (i.more a) at next (i.sweeping a) k;
        added = i.added;
      }

  swept : ((a : ℕ) → SweptAll (source m.side) (target m.side) B.arcs state m.set a (i.more a) next) → Sweeps B.arcs state next m m'
  swept f = record { more = i.more; swept = f; added = i.added }

  pub reading_end : (byte s at ≡ rule_kind) ⊎ (byte s at ≡ end_kind) → Sweeps B.arcs state next m m'
  reading_end k = swept (λ a. sweep_end (source m.side) (target m.side) s B state m.set a (i.more a) at next (i.sweeping a) k)

  pub reading_none : record_size (byte s at) ≡ 0 → Sweeps B.arcs state next m m'
  reading_none e = swept (λ a. sweep_none (source m.side) (target m.side) s B state m.set a (i.more a) at next (i.sweeping a) e)

pub picking_start : (arcs : List Arc) (left : ℕ) (m : Making) → left ≡ m.set → left < 2 ^ 64 → Empty m → Picking arcs left 0 m m
picking_start arcs left m e h z =
    record {
      small = h;
      side = refl;
      set = refl;
      on = refl;
      each =
          λ a on. subst (λ (n : ℕ). Stepping (source m.side) (target m.side) arcs m.set a left n 0) (sym (z a on))
          (subst (λ (n : ℕ). Stepping (source m.side) (target m.side) arcs n a left 0 0) e (stepping_start (source m.side) (target m.side) arcs left a h));
    }

module _ (arcs : List Arc) (left done : ℕ) (m m' : Making) (i : Picking arcs left done m m') where
  pub picking_end : left ≡ 0 → Made arcs m m'
  picking_end e = record { each = λ a on. stepping_end (source m.side) (target m.side) arcs m.set a left (m'.so_far a) done e (i.each a on) }

  module _ (h : 0 < left) where
    less : without left < 2 ^ 64
    less = and_lt 64 left (left - 1) i.small (omega (arith, i.small))

    pub pick_done : count_trailing_zeros 64 left < done → Picking arcs (without left) done m m'
    pick_done l =
        record {
          small = less;
          side = i.side;
          set = i.set;
          on = i.on;
          each = λ a on. turn_done (source m.side) (target m.side) arcs m.set a left (m'.so_far a) done h (i.each a on) l;
        }

    pub pick_none : ((p q a : ℕ) → step_arcs p q arcs (2 ^ count_trailing_zeros 64 left) a ≡ 0) → Picking arcs (without left) done m m'
    pick_none e =
        record {
          small = less;
          side = i.side;
          set = i.set;
          on = i.on;
          each =
              λ a on. turn_none (source m.side) (target m.side) arcs m.set a left (m'.so_far a) done h (i.each a on) (e (source m.side) (target m.side) a);
        }

    pub pick_swept : (next : ℕ) (m'' : Making) → Sweeps arcs (count_trailing_zeros 64 left) next m' m'' → Picking arcs (without left) next m m''
    pick_swept next m'' w =
        record {
          small = less;
          side = w.added.side ∙ i.side;
          set = w.added.set ∙ i.set;
          on = w.added.on ∙ i.on;
          each =
              λ a on. subst (λ (n : ℕ). Stepping (source m.side) (target m.side) arcs m.set a (without left) n next)
              (sym (w.added.each a (ap (λ (f : ℕ → Bool). f a) i.on ∙ on)))
              (turn_swept (source m.side) (target m.side) arcs m.set a left (m'.so_far a) done h (i.each a on) (w.more a) next
              (subst (λ (n : ℕ). SweptAll (source m.side) (target m.side) arcs (count_trailing_zeros 64 left) n a (w.more a) next) i.set
              (subst (λ (side : Side). SweptAll (source side) (target side) arcs (count_trailing_zeros 64 left) m'.set a (w.more a) next) i.side (w.swept a))));
        }
