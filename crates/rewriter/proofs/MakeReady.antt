-- What REWRITE and ACCOUNT share leaves everything ready: the ways of `ready_def`, in their order, and from reply 0 all that the forward passes
-- stand on. The number that the backward pass walks to is the number of the right set there. Assumes nothing.
use Prim.Native.Nat.{ℕ, zero, suc, ◌+◌, ◌<◌, ◌≤◌}
use mathlib.Core.Path.{◌≡◌, refl, sym, ap, ap₂, ◌∙◌, subst}
use mathlib.Core.Bool.{Bool, true, false, cond, ◌||◌, false≢true}
use lib.Dec.{ltb}
use mathlib.Core.List.{List, [], ◌∷◌}
use native.Mathlib.Omega.{arith}
use native.Mathlib.Nat.{zero-add}
use native.Mathlib.Decide.{ℕ_discrete}
use native.Mathlib.Numerals.{add-one}
use lib.ListN.{length, drop, get_or}
use borrow.Author.Tests.{eq-eqb, ne_eqb}
use Rattle.std.specs.Prelude.{Result, Ok, Err}
use Rattle.std.specs.Result.{is_ok}
use Rattle.book.specs.Reading.{Book, check_def, book_of}
use Rattle.book.specs.declared.replies.Refusal as declared
use Rattle.book.specs.declared.replies.Reason.{Reason}
use Rattle.book.specs.Refusals.{number}
use Rattle.book.proofs.Refusals.{number_some}
use Rattle.sets.specs.Sets.{right_at}
use Rattle.sets.specs.Numbering.{most_sets}
use Rattle.sets.specs.Workspace.{AfterBuild, row_bytes, set_words, left_table, right_table, unchanged, cleared, filled, numbered, build_leaves, build_def}
use Rattle.sets.specs.Tables.{right_set, Tape}
use Rattle.sets.specs.Results.{built}
use Rattle.sets.specs.declared.Counts.{Counts}
use Rattle.sets.specs.declared.Built.{Built}
use Rattle.sets.proofs.Tables.{tables, right_walk, right_number_lem}
use Rattle.rewriter.specs.Replies.{Refusal, refusal, early, right_numbers, AfterReady, ready_leaves, ready_def}
use Rattle.stretches.specs.Buffers.{onto}
use Rattle.stretches.specs.Ready.{Ready}
use Rattle.rewriter.specs.Opening.{Symbols, right_number, right_all}
use Rattle.stretches.proofs.Onto.{onto_length, onto_at}
use Rattle.rewriter.proofs.Early.{Admitted, admitted}
use Rattle.rewriter.proofs.Backwards.{length_up, at_up, same_up}

-- a tape of symbols, and what is left of it
tape_drop : (t : List ℕ) → Symbols t → (i : ℕ) → Tape (drop i t)
tape_drop [] s zero = tt
tape_drop [] s (suc i) = tt
tape_drop (x ∷ t) s zero = (s 0 (omega arith), tape_drop t (λ k h. s (suc k) (omega arith)) 0)
tape_drop (x ∷ t) s (suc i) = tape_drop t (λ k h. s (suc k) (omega arith)) i

-- "Scratch byte i, for i from 0 to n, is the number of the right set at i": the walk over the rows that BUILD left
pub right_numbers_lem : (book R S t : List ℕ) → (build_def book R S).answer.reply ≡ 0 → Symbols t
    → right_all (build_def book R S).rows t ≡ right_numbers (book_of book) t
unfolding right_all right_numbers right_at
right_numbers_lem book R S t z s = same_up _ _ (λ i. right_number_lem book R S z (drop i t) (tape_drop t s i)) 0 (suc (length t))

pub numbers_length : (b : Book) (t : List ℕ) → length (right_numbers b t) ≡ length t + 1
unfolding right_numbers
numbers_length b t = length_up _ 0 (suc (length t)) ∙ sym (add-one (length t))

module _ (book tape rows sets scratch : List ℕ) where
  abbrev opening : Refusal
  opening = early book tape (length rows) (length sets) (length scratch)

  abbrev building : AfterBuild
  building = build_def book rows sets

  -- "1 to 12 change no buffer."
  pub refused_is : (opening.reply ≡ 0 → ⊥) → ready_def book tape rows sets scratch ≡ ready_leaves opening rows sets scratch
  unfolding ready_def
  refused_is h = simp (ne_eqb _ _ h)

  -- "13 and 14 leave the workspace parts all 0 and nothing else changed."
  unbuilt_is : opening.reply ≡ 0 → (building.answer.reply ≡ 0 → ⊥)
      → ready_def book tape rows sets scratch ≡ ready_leaves (refusal building.answer.reply 0) building.rows building.sets scratch
  unfolding ready_def
  unbuilt_is z h = simp (eq-eqb _ _ z, ne_eqb _ _ h)

  pub ready_is : opening.reply ≡ 0 → building.answer.reply ≡ 0 → ready_def book tape rows sets scratch
      ≡ ready_leaves (refusal building.answer.reply 0) building.rows building.sets (onto (right_numbers (book_of book) tape) scratch)
  unfolding ready_def
  ready_is z y = simp (eq-eqb opening.reply 0 z, eq-eqb building.answer.reply 0 y)

  -- the code's three ways out, by what its callees gave: refused before anything is built, not built, ready
  module _ (r : Refusal) (is : r ≡ opening) where
    pub leaves_refused : (r.reply ≡ 0 → ⊥) → ready_leaves r rows sets scratch ≡ ready_def book tape rows sets scratch
    leaves_refused h = ap (λ (x : Refusal). ready_leaves x rows sets scratch) is ∙ sym (refused_is (λ z. h (ap (λ (x : Refusal). x.reply) is ∙ z)))

  -- what a call has that nothing refuses
  pub opened : refusal 0 0 ≡ opening → Admitted book tape (length rows) (length sets) (length scratch)
  opened is = admitted book tape (length rows) (length sets) (length scratch) (sym (ap (λ (x : Refusal). x.reply) is))

  -- a refusal of the build of an accepted book has the place 0
  unbuilt_place : (check_def book).reply ≡ 0 → building.answer.place ≡ 0
  unfolding build_def numbered
  unbuilt_place z =
      simp (eq-eqb _ _ z)
      (by (ltb (length rows) row_bytes || ltb (length sets) set_words)
      (ltb most_sets (length (left_table (book_of book)).sets)) (ltb most_sets (length (right_table (book_of book)).sets)))
    where
      by : (a b c : Bool) → (cond a (unchanged 11 0 rows sets) (cond b (cleared 13 rows sets) (cond c (cleared 14 rows sets)
          (filled (left_table (book_of book)) (right_table (book_of book)) rows sets)))).answer.place ≡ 0
      by true b c = refl
      by false true c = refl
      by false false true = refl
      by false false false = refl

  module _ (z : opening.reply ≡ 0) where
    pub opening_admitted : Admitted book tape (length rows) (length sets) (length scratch)
    opening_admitted = admitted book tape (length rows) (length sets) (length scratch) z

    module _ (b : Built) (R S : List ℕ) (as_built : build_leaves b R S ≡ building) where
      pub leaves_unbuilt : (b.reply ≡ 0 → ⊥) → ready_leaves (refusal b.reply b.place) R S scratch ≡ ready_def book tape rows sets scratch
      leaves_unbuilt h =
          ap (λ (x : AfterBuild). ready_leaves (refusal x.answer.reply x.answer.place) x.rows x.sets scratch) as_built
          ∙ ap (λ (p : ℕ). ready_leaves (refusal building.answer.reply p) building.rows building.sets scratch) (unbuilt_place opening_admitted.accepted)
          ∙ sym (unbuilt_is z (λ y. h (ap (λ (x : AfterBuild). x.answer.reply) as_built ∙ y)))

      pub leaves_ready : b.reply ≡ 0 → (X : List ℕ) → X ≡ onto (right_all R tape) scratch
          → ready_leaves (refusal 0 0) R S X ≡ ready_def book tape rows sets scratch
      leaves_ready y X f =
          let y' : building.answer.reply ≡ 0 = sym (ap (λ (x : AfterBuild). x.answer.reply) as_built) ∙ y in
          ap₂ (λ (k : ℕ) (l : List ℕ). ready_leaves (refusal k 0) R S l) (sym y) f
          ∙ ap (λ (x : AfterBuild). ready_leaves (refusal x.answer.reply 0) x.rows x.sets (onto (right_all x.rows tape) scratch)) as_built
          ∙ ap (λ (l : List ℕ). ready_leaves (refusal building.answer.reply 0) building.rows building.sets (onto l scratch))
          (right_numbers_lem book rows sets tape y' opening_admitted.symbols)
          ∙ sym (ready_is z y')

-- for `make_ready`, in whatever form its code tests the result of the build: what is counted is not refused
pub counted : (x : Result Counts declared.Refusal) → is_ok x ≡ true → (built x).reply ≡ 0
counted (Ok n) h = refl
counted (Err e) h = absurd (false≢true h)

-- and what is refused is handed on, found from `ready_def` alone
pub handed_on : (book tape rows sets scratch : List ℕ) → (opening book tape rows sets scratch).reply ≡ 0 → 0 < (build_def book rows sets).answer.reply
    → ready_def book tape rows sets scratch
    ≡ ready_leaves (refusal (build_def book rows sets).answer.reply (build_def book rows sets).answer.place) (build_def book rows sets).rows (build_def book rows sets).sets scratch
handed_on book tape rows sets scratch z h =
    let b = build_def book rows sets in
    sym (leaves_unbuilt book tape rows sets scratch z b.answer b.rows b.sets refl (λ y. omega arith))

pub number_over : (r : Reason) → 0 < number r
number_over r = omega (arith, number_some r)

-- the ways, in the order of the replies
pub data ReadyWay (book tape rows sets scratch : List ℕ) (x : AfterReady) : Type 0 where
  stopped : ((opening book tape rows sets scratch).reply ≡ 0 → ⊥) → x ≡ ready_leaves (opening book tape rows sets scratch) rows sets scratch
      → ReadyWay book tape rows sets scratch x
  unbuilt : ((build_def book rows sets).answer.reply ≡ 0 → ⊥)
      → x ≡ ready_leaves (refusal (build_def book rows sets).answer.reply 0) (build_def book rows sets).rows (build_def book rows sets).sets scratch
      → ReadyWay book tape rows sets scratch x
  made : Admitted book tape (length rows) (length sets) (length scratch) → (build_def book rows sets).answer.reply ≡ 0
      → x
      ≡ ready_leaves (refusal (build_def book rows sets).answer.reply 0) (build_def book rows sets).rows (build_def book rows sets).sets
      (onto (right_numbers (book_of book) tape) scratch)
      → ReadyWay book tape rows sets scratch x

pub ready_way : (book tape rows sets scratch : List ℕ) → ReadyWay book tape rows sets scratch (ready_def book tape rows sets scratch)
ready_way book tape rows sets scratch = by (ℕ_discrete (opening book tape rows sets scratch).reply 0) (ℕ_discrete (build_def book rows sets).answer.reply 0)
  where
    by : Dec ((opening book tape rows sets scratch).reply ≡ 0) → Dec ((build_def book rows sets).answer.reply ≡ 0)
        → ReadyWay book tape rows sets scratch (ready_def book tape rows sets scratch)
    by (no h) d = stopped h (refused_is book tape rows sets scratch h)
    by (yes z) (no h) = unbuilt h (unbuilt_is book tape rows sets scratch z h)
    by (yes z) (yes y) = made (admitted book tape _ _ _ z) y (ready_is book tape rows sets scratch z y)

-- what stands after reply 0 is all that the forward passes ask
module _ (book tape rows sets scratch : List ℕ) where
  module _ (p : Admitted book tape (length rows) (length sets) (length scratch)) (z : (build_def book rows sets).answer.reply ≡ 0) where
    number_at : (j : ℕ) → j ≤ length tape → get_or (onto (right_numbers (book_of book) tape) scratch) j 0 ≡ right_number (build_def book rows sets).rows tape j
    unfolding right_all
    number_at j h =
        onto_at (right_numbers (book_of book) tape) scratch j (omega (arith, numbers_length (book_of book) tape))
        ∙ ap (λ (l : List ℕ). get_or l j 0) (sym (right_numbers_lem book rows sets tape z p.symbols))
        ∙ at_up (right_number (build_def book rows sets).rows tape) 0 (suc (length tape)) j (omega arith)
        ∙ ap (right_number (build_def book rows sets).rows tape) (zero-add j)

    made_ready : Ready book tape (build_def book rows sets).rows (build_def book rows sets).sets (onto (right_numbers (book_of book) tape) scratch)
    unfolding right_at
    made_ready =
        let t = tables book rows sets z in
        record {
          accepted = p.accepted;
          rows_room = t.rows_room;
          sets_room = t.sets_room;
          scratch_room =
              omega (
                arith,
                p.scratch_room,
                onto_length (right_numbers (book_of book) tape) scratch (omega (arith, p.scratch_room, numbers_length (book_of book) tape)),
              );
          tape_fits = p.fits;
          symbols = p.symbols;
          right = λ j h. ap (right_set (build_def book rows sets).sets) (number_at j h) ∙ (right_walk book _ _ t (drop j tape) (tape_drop tape p.symbols j)).1;
          few = t.left_few;
          left_some = t.left_some;
          left_first_lem = t.left_first_lem;
          left_below_lem = t.left_below_lem;
          left_next_lem = t.left_next_lem;
        }

pub ready : (book tape rows sets scratch : List ℕ) → (ready_def book tape rows sets scratch).answer.reply ≡ 0
    → Ready book tape (ready_def book tape rows sets scratch).rows (ready_def book tape rows sets scratch).sets (ready_def book tape rows sets scratch).scratch
ready book tape rows sets scratch z = by (ready_def book tape rows sets scratch) (ready_way book tape rows sets scratch) z
  where
    by : (x : AfterReady) → ReadyWay book tape rows sets scratch x → x.answer.reply ≡ 0 → Ready book tape x.rows x.sets x.scratch
    by x (stopped h e) z = absurd (h (sym (ap (λ (y : AfterReady). y.answer.reply) e) ∙ z))
    by x (unbuilt h e) z = absurd (h (sym (ap (λ (y : AfterReady). y.answer.reply) e) ∙ z))
    by x (made p y e) z = rw e (made_ready book tape rows sets scratch p y)

-- the same from the contract of `make_ready`
pub left_ready : (book tape rows sets scratch : List ℕ) (r : Refusal) (R S X : List ℕ) → ready_leaves r R S X ≡ ready_def book tape rows sets scratch
    → r.reply ≡ 0 → Ready book tape R S X
left_ready book tape rows sets scratch r R S X e z =
    subst (λ (x : AfterReady). Ready book tape x.rows x.sets x.scratch) (sym e)
    (ready book tape rows sets scratch (sym (ap (λ (x : AfterReady). x.answer.reply) e) ∙ z))
