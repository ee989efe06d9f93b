-- `outline::word_length` meets its contract: the byte after the kind is the word's length. Assumes nothing.
use Rattle.book.proofs.Placing.{word_length_lem}
use Rattle.book.proofs.outline.word_length.Goals as goal

pub returns : goal.returns
returns c = word_length_lem c.args.s.now c.args.at c.requires
