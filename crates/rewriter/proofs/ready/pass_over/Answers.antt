-- `rewriter::ready::pass_over` meets its contract: the outline is the book's, and what is ready is more than a walk asks. Assumes nothing.
use Rattle.rewriter.proofs.Whole.{outlined}
use Rattle.rewriter.proofs.ready.pass_over.Goals as goal

pub invariant_of-walk : goal.invariant_of-walk
invariant_of-walk c =
    let r = c.requires.ready in
    let o = c.new-outline.ensures in
    record {
      outlined = rw (o.0, o.1, o.2) (outlined c.args.book.now _ _ _ r.accepted c.requires.counted c.requires.placed c.requires.masked);
      right_sets = rw (o.0) (record { accepted = r.accepted; sets_room = r.sets_room; scratch_room = r.scratch_room; right = r.right });
    }
