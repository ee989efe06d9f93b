-- The contracts of `put`, `put_all`, `put_number` and of both `flush` determine what they give and how they leave the text, where no write fails: two
-- answers `Ok` are the same. `put` determines the text in any case, and `new` the text that begins. What is written out no contract can say. Assumes
-- nothing.
use Rattle.std.proofs.Common.{ℕ, ◌≡◌, sym, ◌∙◌, Ok}
use contract.Lifetimes.{Lfts}
use denote.RattleType.{RattleType}
use denote.Param.Laws.{Laws}
use denote.Triple.Clauses.{Lasts, at_exit}
use borrow.Fn.Kinds.{Dens, res_t, ended_of}
use mir.Syntax.{Dict}
use Rattle.std.specs.declared.io.Print.{Ghosts}
use Rattle.text.specs.Text.{holds}
use Rattle.text.specs.declared.Text.{Text}
use Rattle.text.proofs.Text.new.Kinds as new-kinds
use Rattle.text.proofs.Text.new.Reads as new-reads
use Rattle.text.proofs.Text.put.Kinds as put-kinds
use Rattle.text.proofs.Text.put.Reads as put-reads
use Rattle.text.proofs.Text.put_all.Kinds as all-kinds
use Rattle.text.proofs.Text.put_all.Reads as all-reads
use Rattle.text.proofs.Text.put_number.Kinds as number-kinds
use Rattle.text.proofs.Text.put_number.Reads as number-reads
use Rattle.text.proofs.TextWrite.write_all.Kinds as write_all-kinds
use Rattle.text.proofs.TextWrite.write_all.Reads as write_all-reads
use Rattle.text.proofs.TextWrite.write.Kinds as write-kinds
use Rattle.text.proofs.TextWrite.write.Reads as write-reads
use Rattle.text.proofs.TextWrite.flush.Kinds as text_flush-kinds
use Rattle.text.proofs.TextWrite.flush.Reads as text_flush-reads
use Rattle.text.proofs.flush.Kinds as flush-kinds
use Rattle.text.proofs.flush.Reads as flush-reads

-- two texts hold the same, what stands in their bytes and the place of the next; and they are of the same bytes and the same handle
pub record Same {A : Type 0} (v w : Text A) : Type 0 where
  pub bytes : v.bytes.now ≡ w.bytes.now
  pub used : v.used ≡ w.used
  pub of : v.bytes.ghost_name ≡ w.bytes.ghost_name
  pub handle : v.rt ≡ w.rt

-- each of them as a contract says it
module _ {A : Type 0} (v w t : Text A) where
  abbrev Kept : Text A → Type 0
  Kept s = (s.bytes.ghost_name ≡ t.bytes.ghost_name) × (s.rt ≡ t.rt)

  agree : holds v.bytes.now v.used ≡ holds w.bytes.now w.used → Kept v → Kept w → Same v w
  agree e p q = record { bytes = λ i. (e i).bytes; used = λ i. (e i).used; of = p.0 ∙ sym q.0; handle = p.1 ∙ sym q.1 }

-- for any handle that prints
module _ (T : RattleType) (L : Laws T) (P : Ghosts T.Denot) (D : Dict) where
  pub one_new : (κs : Lfts 2) (a : Dens κs (new-kinds.ps T L)) (x y : (res_t (new-kinds.r T L) κs).Denot)
      (v w : Lasts (ended_of 2 (new-kinds.ps T L) (new-kinds.r T L)) κs a)
      → new-reads.Post T L P D κs a x (at_exit (ended_of 2 (new-kinds.ps T L) (new-kinds.r T L)) κs a v)
      → new-reads.Post T L P D κs a y (at_exit (ended_of 2 (new-kinds.ps T L) (new-kinds.r T L)) κs a w)
      → Same x y
  one_new κs a x y v w p q =
      let e = p.0 ∙ sym q.0 in
      record { bytes = λ i. (e i).bytes; used = λ i. (e i).used; of = p.1.0 ∙ sym q.1.0; handle = p.1.1 ∙ sym q.1.1 }

  pub one_put : (κs : Lfts 3) (a : Dens κs (put-kinds.ps T L)) (x y : Unit {0}) (v w : Lasts (ended_of 3 (put-kinds.ps T L) (put-kinds.r T L)) κs a)
      → put-reads.Post T L P D κs a (Ok x) (at_exit (ended_of 3 (put-kinds.ps T L) (put-kinds.r T L)) κs a v)
      → put-reads.Post T L P D κs a (Ok y) (at_exit (ended_of 3 (put-kinds.ps T L) (put-kinds.r T L)) κs a w)
      → Same v.0 w.0
  one_put κs a x y v w p q = agree v.0 w.0 a.0.now (p.0 ∙ sym q.0) p.1.0 q.1.0

  -- the text's bytes, whether a write failed or not
  pub one_put_text : (κs : Lfts 3) (a : Dens κs (put-kinds.ps T L)) (x y : (res_t (put-kinds.r T L) κs).Denot)
      (v w : Lasts (ended_of 3 (put-kinds.ps T L) (put-kinds.r T L)) κs a)
      → put-reads.Post T L P D κs a x (at_exit (ended_of 3 (put-kinds.ps T L) (put-kinds.r T L)) κs a v)
      → put-reads.Post T L P D κs a y (at_exit (ended_of 3 (put-kinds.ps T L) (put-kinds.r T L)) κs a w)
      → v.0.bytes.now ≡ w.0.bytes.now
  one_put_text κs a x y v w p q = p.1.1.0 ∙ sym q.1.1.0

  pub one_put_all : (κs : Lfts 4) (a : Dens κs (all-kinds.ps T L)) (x y : Unit {0}) (v w : Lasts (ended_of 4 (all-kinds.ps T L) (all-kinds.r T L)) κs a)
      → all-reads.Post T L P D κs a (Ok x) (at_exit (ended_of 4 (all-kinds.ps T L) (all-kinds.r T L)) κs a v)
      → all-reads.Post T L P D κs a (Ok y) (at_exit (ended_of 4 (all-kinds.ps T L) (all-kinds.r T L)) κs a w)
      → Same v.0 w.0
  one_put_all κs a x y v w p q = agree v.0 w.0 a.0.now (p.0 ∙ sym q.0) p.1.0 q.1.0

  pub one_put_number : (κs : Lfts 3) (a : Dens κs (number-kinds.ps T L)) (x y : Unit {0})
      (v w : Lasts (ended_of 3 (number-kinds.ps T L) (number-kinds.r T L)) κs a)
      → number-reads.Post T L P D κs a (Ok x) (at_exit (ended_of 3 (number-kinds.ps T L) (number-kinds.r T L)) κs a v)
      → number-reads.Post T L P D κs a (Ok y) (at_exit (ended_of 3 (number-kinds.ps T L) (number-kinds.r T L)) κs a w)
      → Same v.0 w.0
  one_put_number κs a x y v w p q = agree v.0 w.0 a.0.now (p.0 ∙ sym q.0) p.1.0 q.1.0

  pub one_write_all : (κs : Lfts 4) (a : Dens κs (write_all-kinds.ps T L)) (x y : Unit {0})
      (v w : Lasts (ended_of 4 (write_all-kinds.ps T L) (write_all-kinds.r T L)) κs a)
      → write_all-reads.Post T L P D κs a (Ok x) (at_exit (ended_of 4 (write_all-kinds.ps T L) (write_all-kinds.r T L)) κs a v)
      → write_all-reads.Post T L P D κs a (Ok y) (at_exit (ended_of 4 (write_all-kinds.ps T L) (write_all-kinds.r T L)) κs a w)
      → Same v.0 w.0
  one_write_all κs a x y v w p q = agree v.0 w.0 a.0.now (p.0 ∙ sym q.0) p.1.0 q.1.0

  pub one_write : (κs : Lfts 4) (a : Dens κs (write-kinds.ps T L)) (x y : ℕ)
      (v w : Lasts (ended_of 4 (write-kinds.ps T L) (write-kinds.r T L)) κs a)
      → write-reads.Post T L P D κs a (Ok x) (at_exit (ended_of 4 (write-kinds.ps T L) (write-kinds.r T L)) κs a v)
      → write-reads.Post T L P D κs a (Ok y) (at_exit (ended_of 4 (write-kinds.ps T L) (write-kinds.r T L)) κs a w)
      → (x ≡ y) × Same v.0 w.0
  one_write κs a x y v w p q = (p.1.1.0 ∙ sym q.1.1.0, agree v.0 w.0 a.0.now (p.0 ∙ sym q.0) p.1.0 q.1.0)

  pub one_text_flush : (κs : Lfts 3) (a : Dens κs (text_flush-kinds.ps T L)) (x y : Unit {0})
      (v w : Lasts (ended_of 3 (text_flush-kinds.ps T L) (text_flush-kinds.r T L)) κs a)
      → text_flush-reads.Post T L P D κs a (Ok x) (at_exit (ended_of 3 (text_flush-kinds.ps T L) (text_flush-kinds.r T L)) κs a v)
      → text_flush-reads.Post T L P D κs a (Ok y) (at_exit (ended_of 3 (text_flush-kinds.ps T L) (text_flush-kinds.r T L)) κs a w)
      → Same v.0 w.0
  one_text_flush κs a x y v w p q =
      record { bytes = p.1.1.1 ∙ sym q.1.1.1; used = p.0 ∙ sym q.0; of = p.1.0.0 ∙ sym q.1.0.0; handle = p.1.0.1 ∙ sym q.1.0.1 }

  pub one_flush : (κs : Lfts 3) (a : Dens κs (flush-kinds.ps T L)) (x y : ℕ) (v w : Lasts (ended_of 3 (flush-kinds.ps T L) (flush-kinds.r T L)) κs a)
      → flush-reads.Post T L P D κs a (Ok x) (at_exit (ended_of 3 (flush-kinds.ps T L) (flush-kinds.r T L)) κs a v)
      → flush-reads.Post T L P D κs a (Ok y) (at_exit (ended_of 3 (flush-kinds.ps T L) (flush-kinds.r T L)) κs a w)
      → x ≡ y
  one_flush κs a x y v w p q = p ∙ sym q
