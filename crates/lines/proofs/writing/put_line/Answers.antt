-- `put_line` meets its contract: the stores in a row put the words of one line. Assumes nothing.
use Rattle.std.proofs.Common.{refl, sym}
use Rattle.stretches.specs.Account.{judge}
use Rattle.lines.proofs.Written.{put_words}
use Rattle.lines.proofs.writing.put_line.Goals as goal

pub returns : goal.returns
returns c =
    let e = c.args.end.now in
    let line = judge e.start.at e.at c.args.r c.number.result c.args.d.start c.args.d.rule in
    record {
      put = rw (sym c.number.ensures) (put_words line c.args.to.now.lines.now c.args.to.now.at c.requires.room);
      same_buffer = refl;
    }
