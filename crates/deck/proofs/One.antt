-- The contracts of the C functions determine what they give and leave. Assumes nothing.
use mathlib.Core.Path.{refl, sym, ◌∙◌}
use seplogic.Ra.Ura.{Ura}
use base.Logic.{SProp}
use prog.Memory.{Memory}
use prog.Routine.{Routine}
use types.Logic.{Logic}
use contract.Monad.{Fun}
use contract.Lifetimes.{Lfts}
use denote.Triple.Entry.{Args}
use Rattle.book.specs.Determined.{Determined, Fixed}
use Rattle.heat.proofs.One as heat
use Rattle.deck.proofs.qafrendi_check.Kinds as check-kinds
use Rattle.deck.proofs.qafrendi_check.Reads as check-reads
use Rattle.deck.proofs.qafrendi_build.Kinds as build-kinds
use Rattle.deck.proofs.qafrendi_build.Reads as build-reads
use Rattle.deck.proofs.qafrendi_rewrite.Kinds as rewrite-kinds
use Rattle.deck.proofs.qafrendi_rewrite.Reads as rewrite-reads
use Rattle.deck.proofs.qafrendi_account.Kinds as account-kinds
use Rattle.deck.proofs.qafrendi_account.Reads as account-reads
use Rattle.deck.proofs.qafrendi_show.Kinds as show-kinds
use Rattle.deck.proofs.qafrendi_show.Reads as show-reads
use Rattle.deck.proofs.qafrendi_import.Kinds as import-kinds
use Rattle.deck.proofs.qafrendi_import.Reads as import-reads
use Rattle.deck.specs.contracts.qafrendi_heat as c-heat

pub one_check : Determined 1 check-kinds.ps check-kinds.r check-reads.Post
one_check κs a x y v w p q =
    let e = p ∙ sym q in
    (λ i. record { reply = (e i).reply; place = (e i).place; rules = (e i).rules; states = (e i).states; arcs = (e i).arcs }, refl)

-- the answer, rows and sets
pub one_build : Determined 3 build-kinds.ps build-kinds.r build-reads.Post
one_build κs a x y v w p q =
    let e = p ∙ sym q in (
      λ i. record { reply = (e i).answer.reply; place = (e i).answer.place; left = (e i).answer.left; right = (e i).answer.right },
      λ i. (tt, ((e i).rows, ((e i).sets, tt))),
    )

-- the answer, rows, sets, scratch, output and origins
pub one_rewrite : Determined 7 rewrite-kinds.ps rewrite-kinds.r rewrite-reads.Post
one_rewrite κs a x y v w p q =
    let e = p ∙ sym q in (
      λ i. record { reply = (e i).answer.reply; place = (e i).answer.place; length = (e i).answer.length; taken = (e i).answer.taken },
      λ i. (tt, (tt, ((e i).rows, ((e i).sets, ((e i).scratch, ((e i).out, ((e i).origins, tt))))))),
    )

-- the answer, rows, sets, scratch and lines
pub one_account : Determined 6 account-kinds.ps account-kinds.r account-reads.Post
one_account κs a x y v w p q =
    let e = p ∙ sym q in (
      λ i. record { reply = (e i).answer.reply; place = (e i).answer.place; candidates = (e i).answer.candidates },
      λ i. (tt, (tt, ((e i).rows, ((e i).sets, ((e i).scratch, ((e i).lines, tt)))))),
    )

-- SHOW's bounds
pub one_show : Determined 1 show-kinds.ps show-kinds.r show-reads.Post
one_show κs a x y v w p q = let e = p ∙ sym q in (λ i. record { start = (e i).start; end = (e i).end }, refl)

-- the answer, the lane records, rows, sets, scratch, output and origins: the clauses are those of HEAT itself
pub one_heat : {M : Type 1} {𝓤 : Ura M} (𝓛 : Logic 𝓤) (mem : Memory → SProp 𝓤) (run : Routine → Fun 𝓤) (κs : Lfts 8) (a : Args c-heat.signature κs)
    → Fixed 𝓤 c-heat.ended (c-heat.clauses 𝓛 mem run) κs a tt
one_heat 𝓛 mem run κs a =
    let e = heat.one_heat 𝓛 mem run κs a in
    record { P = e.P; ensured = e.ensured; one = e.one }

-- the answer and the output
pub one_import : Determined 2 import-kinds.ps import-kinds.r import-reads.Post
one_import κs a x y v w p q = let e = p ∙ sym q in (λ i. (e i).answer, λ i. (tt, (tt, (tt, ((e i).out, tt)))))
