-- `rewriter::shown::show` meets its contract: the part that it cuts is the one that `bounds_of` gives. Assumes nothing.
use Prim.Native.Nat.{◌+◌}
use native.Mathlib.Nat.{add_comm}
use mathlib.Core.Path.{refl, ap, ◌∙◌}
use Rattle.rewriter.specs.declared.shown.Bounds.{Bounds}
use Rattle.rewriter.specs.Show.{part_of, show_def}
use Rattle.rewriter.proofs.shown.show.Goals as goal

pub returns : goal.returns
unfolding show_def
returns c =
    record {
      result_value = ap (part_of c.args.tape.now) c.bounds_of-b.ensures.value;
      ref_ptr_value = (refl, add_comm c.bounds_of-b.result.start c.args.tape.ref_ptr.1 ∙ ap (λ (r : Bounds). c.args.tape.ref_ptr.1 + r.start) c.bounds_of-b.ensures.value);
    }
