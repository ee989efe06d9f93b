-- The contract of HEAT determines what it gives and leaves, and so does that of HEAT as a result. Assumes nothing.
use mathlib.Core.Path.{◌≡◌, refl, sym, ap, ◌∙◌}
use Rattle.std.specs.Prelude.{Result}
use seplogic.Ra.Ura.{Ura}
use base.Logic.{SProp}
use prog.Memory.{Memory}
use prog.Routine.{Routine}
use types.Logic.{Logic}
use contract.Monad.{Fun}
use contract.Lifetimes.{Lfts}
use denote.Triple.Entry.{Args}
use denote.Triple.Clauses.{Lasts}
use Rattle.book.specs.Determined.{Fixed}
use Rattle.heat.specs.declared.Heated.{Heated}
use Rattle.heat.specs.Heats.{AfterHeat, heat_leaves, heat_def}
use Rattle.heat.specs.Begins.{heated_of}
use Rattle.heat.specs.contracts.heat as heat
use Rattle.heat.specs.contracts.try_heat as try_heat
use Rattle.book.specs.declared.replies.Refusal.{Refusal}
use Rattle.book.proofs.Refusals.{result_one}

-- the last values of lanes, rows, sets, scratch, output and origins, with the answer
abbrev left : (κs : Lfts 8) (a : Args heat.signature κs) → Heated → Lasts heat.ended κs a → AfterHeat
left κs a x v =
    heat_leaves x v.1.1.0 v.1.1.1.0 v.1.1.1.1.0 v.1.1.1.1.1.0 v.1.1.1.1.1.1.0 v.1.1.1.1.1.1.1.0

abbrev wanted : (κs : Lfts 8) → Args heat.signature κs → AfterHeat
wanted κs a =
    heat_def a.0.now a.1.0.now a.1.1.0.now a.1.1.1.0.now a.1.1.1.1.0.now a.1.1.1.1.1.0.now
    a.1.1.1.1.1.1.0.now a.1.1.1.1.1.1.1.0.now

pub one_heat : {M : Type 1} {𝓤 : Ura M} (𝓛 : Logic 𝓤) (mem : Memory → SProp 𝓤) (run : Routine → Fun 𝓤) (κs : Lfts 8) (a : Args heat.signature κs)
    → Fixed 𝓤 heat.ended (heat.clauses 𝓛 mem run) κs a tt
one_heat 𝓛 mem run κs a = record {
  P = λ x v. left κs a x v ≡ wanted κs a;
  ensured = λ x v. refl;
  one = λ x y v w p q.
      let e = p ∙ sym q in
      (λ i. (e i).answer, λ i. (tt, (tt, ((e i).lanes, ((e i).rows, ((e i).sets, ((e i).scratch, ((e i).out, ((e i).origins, tt)))))))));
}

-- ---- as a result
heated_one : (x y : Result Unit Refusal) → heated_of x ≡ heated_of y → x ≡ y
heated_one x y e = result_one x y (ap (λ (h : Heated). h.reply) e) (ap (λ (h : Heated). h.place) e) (λ a b p q. refl)

abbrev tried : (κs : Lfts 8) (a : Args try_heat.signature κs) → Result Unit Refusal → Lasts try_heat.ended κs a → AfterHeat
tried κs a x v =
    heat_leaves (heated_of x) v.1.1.0 v.1.1.1.0 v.1.1.1.1.0 v.1.1.1.1.1.0 v.1.1.1.1.1.1.0 v.1.1.1.1.1.1.1.0

abbrev try_wanted : (κs : Lfts 8) → Args try_heat.signature κs → AfterHeat
try_wanted κs a =
    heat_def a.0.now a.1.0.now a.1.1.0.now a.1.1.1.0.now a.1.1.1.1.0.now a.1.1.1.1.1.0.now
    a.1.1.1.1.1.1.0.now a.1.1.1.1.1.1.1.0.now

pub one_try_heat : {M : Type 1} {𝓤 : Ura M} (𝓛 : Logic 𝓤) (mem : Memory → SProp 𝓤) (run : Routine → Fun 𝓤) (κs : Lfts 8)
    (a : Args try_heat.signature κs) → Fixed 𝓤 try_heat.ended (try_heat.clauses 𝓛 mem run) κs a tt
one_try_heat 𝓛 mem run κs a = record {
  P = λ x v. tried κs a x v ≡ try_wanted κs a;
  ensured = λ x v. refl;
  one = λ x y v w p q.
      let e = p ∙ sym q in (
        heated_one x y (λ i. (e i).answer),
        λ i. (tt, (tt, ((e i).lanes, ((e i).rows, ((e i).sets, ((e i).scratch, ((e i).out, ((e i).origins, tt)))))))),
      );
}
