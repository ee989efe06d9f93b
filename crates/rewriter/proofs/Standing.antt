-- Rows and sets as BUILD left them: one build is as good as ten. The tests of a tape and its backward pass leave what `ready_def` says; and what
-- REWRITE answers and writes does not look at what stood in the workspace. Assumes nothing.
use Prim.Native.Nat.{ℕ, ◌≤◌, ◌<◌}
use mathlib.Core.Path.{◌≡◌, refl, sym, ap, ap₂, ◌∙◌}
use mathlib.Core.List.{List, [], ◌++◌}
use mathlib.Core.Bool.{Bool, true, false, cond, ◌&&◌}
use native.Mathlib.Omega.{arith}
use native.Mathlib.Decide.{ℕ_discrete}
use lib.Dec.{leb, ltb, eqb}
use lib.ListN.{length, take, drop}
use borrow.Author.Tests.{eq-eqb, ne_eqb, le-ltb, le-leb, lt-leb}
use Rattle.book.specs.Reading.{book_of}
use Rattle.book.specs.Language.{Rules, rules_in}
use Rattle.sets.specs.Workspace.{AfterBuild, build_def}
use Rattle.sets.specs.declared.Built.{Built}
use Rattle.sets.specs.Tables.{Buildable, AsBuilt}
use Rattle.sets.proofs.Tables.{buildable, build_answer}
use Rattle.stretches.specs.Buffers.{longest_tape, onto}
use Rattle.stretches.specs.Candidates.{taken}
use Rattle.stretches.specs.Output.{rewriting, symbols_of, origins_of}
use Rattle.stretches.proofs.Lists.{by_test}
use Rattle.output.specs.Tape.{AfterTape, tape_leaves, tape_def}
use Rattle.output.specs.declared.Rewritten.{Rewritten}
use Rattle.output.proofs.Tapes.{tape_front, tape_front_origins}
use Rattle.rewriter.specs.Replies.{Refusal}
use Rattle.rewriter.specs.Replies.{first_bad, refusal, early, right_numbers, AfterReady, ready_leaves, ready_def, AfterRewrite, rewrite_leaves, rewrite_from}
use Rattle.rewriter.specs.Replies.{rewrite_def}
use Rattle.rewriter.specs.Opening.{Symbols, right_all, tape_refusal, tape_tests, AfterOpening, opens, open_def}
use Rattle.rewriter.proofs.Early.{all_good, tape_good, tape_passed, tape_not_15, admitted}
use Rattle.rewriter.proofs.MakeReady.{right_numbers_lem, refused_is, ready_is}

-- ---- the tests of a tape after a build
passed_place : (tape : List ℕ) → (tape_refusal tape).reply ≡ 0 → tape_refusal tape ≡ refusal 0 0
passed_place tape z = let p = tape_passed tape z in sym (tape_good tape p.0 p.1)

none_place : (tape : List ℕ) (scratch : ℕ) → (tape_tests tape scratch).reply ≡ 0 → tape_tests tape scratch ≡ refusal 0 0
unfolding tape_tests
none_place tape scratch z = by (ℕ_discrete (tape_refusal tape).reply 0) (leb scratch (length tape)) z
  where
    by : Dec ((tape_refusal tape).reply ≡ 0) → (c : Bool) → (cond (eqb (tape_refusal tape).reply 0) (cond c (refusal 12 0) (refusal 0 0))
        (tape_refusal tape)).reply ≡ 0
        → cond (eqb (tape_refusal tape).reply 0) (cond c (refusal 12 0) (refusal 0 0)) (tape_refusal tape) ≡ refusal 0 0
    by (yes y) true z = absurd (let q : 12 ≡ 0 = simp (eq-eqb _ _ y) at z in omega arith)
    by (yes y) false z = simp (eq-eqb _ _ y)
    by (no h) c z = absurd (h (simp (ne_eqb _ _ h) at z))

-- the tests of a call with an accepted book and a workspace that is long enough are those of its tape
pub early_room : (book rows sets : List ℕ) → Buildable book rows sets → (tape : List ℕ) (scratch : ℕ)
    → early book tape (length rows) (length sets) scratch ≡ tape_tests tape scratch
unfolding early tape_tests tape_refusal
early_room book rows sets o tape scratch =
    simp (eq-eqb _ _ o.accepted, le-ltb _ _ o.rows, le-ltb _ _ o.sets) (by (ltb longest_tape (length tape)) (ltb (first_bad tape) (length tape)) _)
  where
    own : Bool → Bool → Refusal
    own a b = cond a (refusal 9 0) (cond b (refusal 10 (first_bad tape)) (refusal 0 0))

    by : (a b : Bool) (rest : Refusal) → cond a (refusal 9 0) (cond b (refusal 10 (first_bad tape)) rest) ≡ cond (eqb (own a b).reply 0) rest (own a b)
    by true b rest = refl
    by false true rest = refl
    by false false rest = refl

-- the code's three ways out of the tests and the backward pass
module _ (rows tape X : List ℕ) (r : Refusal) (is : r ≡ tape_refusal tape) where
  reply_is : r.reply ≡ (tape_refusal tape).reply
  reply_is = ap (λ (x : Refusal). x.reply) is

  tests_refused : (r.reply ≡ 0 → ⊥) → r ≡ tape_tests tape (length X)
  unfolding tape_tests
  tests_refused h = simp (ne_eqb _ _ (λ z. h (reply_is ∙ z))) is

  pub open_refused : (r.reply ≡ 0 → ⊥) → opens r X ≡ open_def rows tape X
  unfolding open_def
  open_refused h =
      let e = tests_refused h in
      simp (ne_eqb _ _ (λ z. h (ap (λ (x : Refusal). x.reply) e ∙ z))) (ap (λ (x : Refusal). opens x X) e)

  module _ (z : r.reply ≡ 0) where
    pub open_passed : Symbols tape
    open_passed = all_good tape (tape_passed tape (sym reply_is ∙ z)).1

    tests_short : length X ≤ length tape → refusal 12 0 ≡ tape_tests tape (length X)
    unfolding tape_tests
    tests_short h = simp (eq-eqb _ _ (sym reply_is ∙ z), le-leb _ _ h)

    pub open_short : length X ≤ length tape → opens (refusal 12 0) X ≡ open_def rows tape X
    unfolding open_def
    open_short h =
        let e = tests_short h in
        simp (ne_eqb _ _ (λ y. absurd (let q : 12 ≡ 0 = ap (λ (x : Refusal). x.reply) e ∙ y in omega arith))) (ap (λ (x : Refusal). opens x X) e)

    tests_passed : length tape < length X → r ≡ tape_tests tape (length X)
    unfolding tape_tests
    tests_passed h = simp (eq-eqb _ _ (sym reply_is ∙ z), lt-leb _ _ h) (is ∙ passed_place tape (sym reply_is ∙ z))

    pub open_done : length tape < length X → (X' : List ℕ) → X' ≡ onto (right_all rows tape) X → opens r X' ≡ open_def rows tape X
    unfolding open_def
    open_done h X' e =
        let t = tests_passed h in
        simp (eq-eqb _ _ (sym (ap (λ (x : Refusal). x.reply) t) ∙ z)) (ap₂ opens t e)

module _ (book rows sets : List ℕ) (a : AsBuilt book rows sets) where
  pub built_room : Buildable book rows sets
  built_room = buildable book rows sets a.accepts

  early_is : (tape : List ℕ) (scratch : ℕ) → early book tape (length rows) (length sets) scratch ≡ tape_tests tape scratch
  early_is tape scratch = early_room book rows sets built_room tape scratch

  -- what stands after the tests and the backward pass is what `ready_def` says, with the workspace as it was
  pub opening_is : (tape X : List ℕ) → ready_leaves (open_def rows tape X).answer rows sets (open_def rows tape X).scratch ≡ ready_def book tape rows sets X
  unfolding open_def
  opening_is tape X = by (ℕ_discrete (tape_tests tape (length X)).reply 0)
    where
      by : Dec ((tape_tests tape (length X)).reply ≡ 0) → ready_leaves (open_def rows tape X).answer rows sets (open_def rows tape X).scratch
          ≡ ready_def book tape rows sets X
      by (no h) =
          simp (ne_eqb _ _ h)
          (ap (λ (x : Refusal). ready_leaves x rows sets X) (sym (early_is tape (length X)))
          ∙ sym (refused_is book tape rows sets X (λ z. h (sym (ap (λ (x : Refusal). x.reply) (early_is tape (length X))) ∙ z))))
      by (yes z) =
          let z' : (early book tape (length rows) (length sets) (length X)).reply ≡ 0 = ap (λ (x : Refusal). x.reply) (early_is tape (length X)) ∙ z in
          let p = admitted book tape (length rows) (length sets) (length X) z' in
          let n = right_numbers_lem book rows sets tape a.accepts p.symbols in
          let az = sym a.accepts in
          let ar = sym a.same_rows in
          let as' = sym a.same_sets in
          simp (eq-eqb _ _ z)
          ((λ i. ready_leaves (none_place tape (length X) z i) rows sets (onto (right_all rows tape) X))
          ∙ (λ i. ready_leaves (refusal (az i) 0) (ar i) (as' i) (onto (right_all (ar i) tape) X))
          ∙ ap (λ (l : List ℕ). ready_leaves (refusal (build_def book rows sets).answer.reply 0) (build_def book rows sets).rows
          (build_def book rows sets).sets (onto l X)) n
          ∙ sym (ready_is book tape rows sets X z' a.accepts))

  -- 15 is not among its refusals
  pub ready_not_15 : (tape X : List ℕ) → (ready_def book tape rows sets X).answer.reply ≡ 15 → ⊥
  unfolding open_def tape_tests
  ready_not_15 tape X e = by (eqb (tape_tests tape (length X)).reply 0) (ap (λ (x : AfterReady). x.answer.reply) (opening_is tape X) ∙ e)
    where
      tests : (tape_tests tape (length X)).reply ≡ 15 → ⊥
      tests = of_tests (eqb (tape_refusal tape).reply 0) (leb (length X) (length tape))
        where
          of_tests : (a b : Bool) → (cond a (cond b (refusal 12 0) (refusal 0 0)) (tape_refusal tape)).reply ≡ 15 → ⊥
          of_tests true true e = let q : ◌≡◌ {A = ℕ} 12 15 = e in omega arith
          of_tests true false e = let q : ◌≡◌ {A = ℕ} 0 15 = e in omega arith
          of_tests false b e = tape_not_15 tape e

      by : (c : Bool) → (cond c (opens (tape_tests tape (length X)) (onto (right_all rows tape) X)) (opens (tape_tests tape (length X)) X)).answer.reply ≡ 15 → ⊥
      by true = tests
      by false = tests

  -- the same from the contract of `tape_ready`
  pub opened_ready : (tape X : List ℕ) (r : Refusal) (X' : List ℕ) → opens r X' ≡ open_def rows tape X → ready_leaves r rows sets X'
      ≡ ready_def book tape rows sets X
  opened_ready tape X r X' e = ap (λ (x : AfterOpening). ready_leaves x.answer rows sets x.scratch) e ∙ opening_is tape X

-- ---- what stood in the workspace has no influence
-- what is handed on from there, by BUILD's reply: the refusal and the scratch
abbrev handed : List ℕ → List ℕ → List ℕ → ℕ → AfterOpening
handed book tape X n =
    cond (eqb (tape_tests tape (length X)).reply 0)
    (opens (refusal n 0) (cond (eqb n 0) (onto (right_numbers (book_of book) tape) X) X))
    (opens (tape_tests tape (length X)) X)

ready_handed : (book tape R S X : List ℕ) → Buildable book R S → opens (ready_def book tape R S X).answer (ready_def book tape R S X).scratch
    ≡ handed book tape X (build_def book R S).answer.reply
unfolding ready_def
ready_handed book tape R S X o = rw (early_room book R S o tape (length X)) (by (eqb (tape_tests tape (length X)).reply 0))
  where
    done : AfterReady
    done = ready_leaves (refusal (build_def book R S).answer.reply 0) (build_def book R S).rows (build_def book R S).sets
        (cond (eqb (build_def book R S).answer.reply 0) (onto (right_numbers (book_of book) tape) X) X)

    by : (c : Bool) → opens (cond c done (ready_leaves (tape_tests tape (length X)) R S X)).answer
        (cond c done (ready_leaves (tape_tests tape (length X)) R S X)).scratch
        ≡ cond c (opens (refusal (build_def book R S).answer.reply 0)
        (cond (eqb (build_def book R S).answer.reply 0) (onto (right_numbers (book_of book) tape) X) X)) (opens (tape_tests tape (length X)) X)
    by true = refl
    by false = refl

-- all of REWRITE but the workspace
pub record Seen : Type 0 where
  pub answer : Rewritten
  pub scratch : List ℕ
  pub out : List ℕ
  pub origins : List ℕ

abbrev pub seen : AfterRewrite → Seen
seen x = record { answer = x.answer; scratch = x.scratch; out = x.out; origins = x.origins }

from_handed : (p : AfterReady) (t : AfterTape) (out origins : List ℕ) → seen (rewrite_from p t out origins)
    ≡ seen (rewrite_from (ready_leaves p.answer [] [] p.scratch) t out origins)
from_handed p t out origins = by (eqb p.answer.reply 0)
  where
    no : List ℕ → List ℕ → AfterRewrite
    no R S = rewrite_leaves (record { reply = p.answer.reply; place = p.answer.place; length = 0; taken = 0 }) R S p.scratch out origins

    ok : List ℕ → List ℕ → AfterRewrite
    ok R S = rewrite_leaves t.answer R S p.scratch t.out t.origins

    by : (c : Bool) → seen (cond c (ok p.rows p.sets) (no p.rows p.sets)) ≡ seen (cond c (ok [] []) (no [] []))
    by true = refl
    by false = refl

-- "What stood in workspace and scratch before has no influence": REWRITE over two workspaces that are long enough
pub rewrite_anywhere : (book tape R S R' S' X out origins : List ℕ) → Buildable book R S → Buildable book R' S'
    → seen (rewrite_def book tape R S X out origins) ≡ seen (rewrite_def book tape R' S' X out origins)
unfolding rewrite_def
rewrite_anywhere book tape R S R' S' X out origins o o' =
    let t = tape_def (rules_in book) tape out origins in
    let same : opens (ready_def book tape R S X).answer (ready_def book tape R S X).scratch ≡ opens (ready_def book tape R' S' X).answer
    (ready_def book tape R' S' X).scratch =
    ready_handed book tape R S X o ∙ ap (λ (b : Built). handed book tape X b.reply) (build_answer book R S R' S' o o')
    ∙ sym (ready_handed book tape R' S' X o')
    in
    from_handed (ready_def book tape R S X) t out origins
    ∙ ap (λ (p : AfterOpening). seen (rewrite_from (ready_leaves p.answer [] [] p.scratch) t out origins)) same
    ∙ sym (from_handed (ready_def book tape R' S' X) t out origins)

-- ---- reply, place and counts look at the lengths of scratch, output and origins alone
ready_answer : (book tape R S X X' : List ℕ) → length X ≡ length X' → (ready_def book tape R S X).answer ≡ (ready_def book tape R S X').answer
unfolding ready_def
ready_answer book tape R S X X' e = rw e (by (eqb (early book tape (length R) (length S) (length X')).reply 0))
  where
    b : AfterBuild
    b = build_def book R S

    done : List ℕ → AfterReady
    done Y = ready_leaves (refusal b.answer.reply 0) b.rows b.sets (cond (eqb b.answer.reply 0) (onto (right_numbers (book_of book) tape) Y) Y)

    by : (c : Bool) → (cond c (done X) (ready_leaves (early book tape (length R) (length S) (length X')) R S X)).answer
        ≡ (cond c (done X') (ready_leaves (early book tape (length R) (length S) (length X')) R S X')).answer
    by true = refl
    by false = refl

-- the answer by what the tests gave and what the passes gave
abbrev answer_from : Refusal → Rewritten → Rewritten
answer_from p t = cond (eqb p.reply 0) t (record { reply = p.reply; place = p.place; length = 0; taken = 0 })

from_answer : (p : AfterReady) (t : AfterTape) (out origins : List ℕ) → (rewrite_from p t out origins).answer ≡ answer_from p.answer t.answer
from_answer p t out origins = by (eqb p.answer.reply 0)
  where
    by : (c : Bool) → (cond c (rewrite_leaves t.answer p.rows p.sets p.scratch t.out t.origins)
        (rewrite_leaves (record { reply = p.answer.reply; place = p.answer.place; length = 0; taken = 0 }) p.rows p.sets p.scratch out
        origins)).answer
        ≡ cond c t.answer (record { reply = p.answer.reply; place = p.answer.place; length = 0; taken = 0 })
    by true = refl
    by false = refl

-- whether the output of the tape has room
abbrev pub has_room : Rules → List ℕ → List ℕ → List ℕ → Bool
has_room b tape out origins = leb (length (rewriting b tape)) (length out) && leb (length (rewriting b tape)) (length origins)

tape_room : (b : Rules) (tape out origins out' origins' : List ℕ) → has_room b tape out origins ≡ has_room b tape out' origins'
    → (tape_def b tape out origins).answer ≡ (tape_def b tape out' origins').answer
unfolding tape_def
tape_room b tape out origins out' origins' e = rw e (by (has_room b tape out' origins'))
  where
    by : (c : Bool) → (cond c (tape_leaves (record { reply = 0; place = 0; length = length (rewriting b tape); taken = length (taken b tape) })
        (onto (symbols_of (rewriting b tape)) out) (onto (origins_of (rewriting b tape)) origins))
        (tape_leaves (record { reply = 15; place = length (rewriting b tape); length = 0; taken = 0 }) out origins)).answer
        ≡ (cond c (tape_leaves (record { reply = 0; place = 0; length = length (rewriting b tape); taken = length (taken b tape) })
        (onto (symbols_of (rewriting b tape)) out') (onto (origins_of (rewriting b tape)) origins'))
        (tape_leaves (record { reply = 15; place = length (rewriting b tape); length = 0; taken = 0 }) out' origins')).answer
    by true = refl
    by false = refl

pub rewrite_answer : (book tape R S X X' out out' origins origins' : List ℕ) → length X ≡ length X' → has_room (rules_in book) tape out origins
    ≡ has_room (rules_in book) tape out' origins'
    → (rewrite_def book tape R S X out origins).answer ≡ (rewrite_def book tape R S X' out' origins').answer
unfolding rewrite_def
rewrite_answer book tape R S X X' out out' origins origins' p q =
    from_answer (ready_def book tape R S X) (tape_def (rules_in book) tape out origins) out origins
    ∙ ap₂ answer_from (ready_answer book tape R S X X' p) (tape_room (rules_in book) tape out origins out' origins' q)
    ∙ sym (from_answer (ready_def book tape R S X') (tape_def (rules_in book) tape out' origins') out' origins')

-- the passes give 0 or 15
tape_reply : (b : Rules) (tape out origins : List ℕ) (P : ℕ → Type 0) → P 0 → P 15 → P (tape_def b tape out origins).answer.reply
unfolding tape_def
tape_reply b tape out origins P p q = by_test (λ (x : AfterTape). P x.answer.reply) (has_room b tape out origins) _ _ (λ e. p) (λ e. q)

-- a refusal before them does not look at the room for the output
pub rewrite_refusal : (book tape R S X X' out out' origins origins' : List ℕ) → length X ≡ length X'
    → ((rewrite_def book tape R S X out origins).answer.reply ≡ 0 → ⊥) → ((rewrite_def book tape R S X out origins).answer.reply ≡ 15 → ⊥)
    → (rewrite_def book tape R S X out origins).answer ≡ (rewrite_def book tape R S X' out' origins').answer
unfolding rewrite_def
rewrite_refusal book tape R S X X' out out' origins origins' p h g =
    let e = from_answer (ready_def book tape R S X) (tape_def (rules_in book) tape out origins) out origins in
    let e' = from_answer (ready_def book tape R S X') (tape_def (rules_in book) tape out' origins') out' origins' in
    e
    ∙ by (eqb (ready_def book tape R S X).answer.reply 0) (λ z. h (ap (λ (x : Rewritten). x.reply) e ∙ z)) (λ z. g (ap (λ (x : Rewritten). x.reply) e ∙ z))
    ∙ ap (λ (x : Refusal). answer_from x (tape_def (rules_in book) tape out' origins').answer) (ready_answer book tape R S X X' p)
    ∙ sym e'
  where
    t : Rewritten
    t = (tape_def (rules_in book) tape out origins).answer

    t' : Rewritten
    t' = (tape_def (rules_in book) tape out' origins').answer

    n : Rewritten
    n = record { reply = (ready_def book tape R S X).answer.reply; place = (ready_def book tape R S X).answer.place; length = 0; taken = 0 }

    by : (c : Bool) → ((cond c t n).reply ≡ 0 → ⊥) → ((cond c t n).reply ≡ 15 → ⊥) → cond c t n ≡ cond c t' n
    by true h g = absurd (tape_reply (rules_in book) tape out origins (λ k. (k ≡ 0 → ⊥) → (k ≡ 15 → ⊥) → ⊥) (λ f _. f refl) (λ _ f. f refl) h g)
    by false h g = refl

-- and what is written is the front of the rewriting, as many symbols as the answer says
module _ (book tape R S X out origins : List ℕ) where
  abbrev whole_out : AfterRewrite
  whole_out = rewrite_def book tape R S X out origins

  pub rewrite_front : whole_out.out ≡ take whole_out.answer.length (symbols_of (rewriting (rules_in book) tape)) ++ drop whole_out.answer.length out
  unfolding rewrite_def
  rewrite_front =
      by_test (λ (x : AfterRewrite). x.out ≡ take x.answer.length (symbols_of (rewriting (rules_in book) tape)) ++ drop x.answer.length out)
      (eqb (ready_def book tape R S X).answer.reply 0) _ _
      (λ e. tape_front (rules_in book) tape out origins) (λ e. refl)

  pub rewrite_front_origins : whole_out.origins ≡ take whole_out.answer.length (origins_of (rewriting (rules_in book) tape)) ++ drop
      whole_out.answer.length origins
  unfolding rewrite_def
  rewrite_front_origins =
      by_test (λ (x : AfterRewrite). x.origins ≡ take x.answer.length (origins_of (rewriting (rules_in book) tape)) ++ drop x.answer.length origins)
      (eqb (ready_def book tape R S X).answer.reply 0) _ _
      (λ e. tape_front_origins (rules_in book) tape out origins) (λ e. refl)
