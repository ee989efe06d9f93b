-- The answers of the C face, read as those of the operations: the same numbers.
use Rattle.book.specs.declared.Checked.{Checked}
use Rattle.sets.specs.declared.Built.{Built}
use Rattle.output.specs.declared.Rewritten.{Rewritten}
use Rattle.lines.specs.declared.Accounted.{Accounted}
use Rattle.rewriter.specs.declared.shown.Bounds.{Bounds}
use Rattle.deck.specs.declared.CChecked.{CChecked}
use Rattle.deck.specs.declared.CBuilt.{CBuilt}
use Rattle.deck.specs.declared.CRewritten.{CRewritten}
use Rattle.deck.specs.declared.CAccounted.{CAccounted}
use Rattle.deck.specs.declared.CStretch.{CStretch}

abbrev pub plain_checked : CChecked → Checked
plain_checked r = record { reply = r.reply; place = r.place; rules = r.rules; states = r.states; arcs = r.arcs }

abbrev pub plain_built : CBuilt → Built
plain_built r = record { reply = r.reply; place = r.place; left = r.left; right = r.right }

abbrev pub plain_rewritten : CRewritten → Rewritten
plain_rewritten r = record { reply = r.reply; place = r.place; length = r.length; taken = r.taken }

abbrev pub plain_accounted : CAccounted → Accounted
plain_accounted r = record { reply = r.reply; place = r.place; candidates = r.candidates }

abbrev pub plain_bounds : CStretch → Bounds
plain_bounds r = record { start = r.start; end = r.end }
