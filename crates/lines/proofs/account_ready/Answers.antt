-- `account_ready` meets its contract: the two returns are the two cases of `lines_def`. Assumes nothing.
use Rattle.std.proofs.Common.{arith}
use Rattle.book.specs.Reading.{book_of}
use Rattle.lines.proofs.Listings.{short, room, long}
use Rattle.lines.proofs.Tallies.{rules_over, account_most}
use Rattle.lines.proofs.account_ready.Goals as goal

pub overflow_mul-candidates : goal.overflow_mul-candidates
overflow_mul-candidates c =
    let p = c.args.pass.now in
    omega (arith, c.count-candidates.ensures, account_most (book_of p.walk.outline.states.book.now) p.walk.outlined.tests.sound p.walk.tape.now p.ready.tape_fits)

pub returns-then-lines-candidates : goal.returns-then-lines-candidates
returns-then-lines-candidates c =
    let p = c.args.pass.now in
    rw c.at.ensures (short (rules_over p) p.walk.tape.now c.args.lines.now c.count-candidates.result c.count-candidates.ensures (omega arith))

pub write_lines-requires : goal.write_lines-requires
write_lines-requires c =
    let p = c.args.pass.now in
    room (rules_over p) p.walk.tape.now c.args.lines.now c.count-candidates.result c.count-candidates.ensures (omega arith)

pub returns : goal.returns
returns c =
    let p = c.args.pass.now in
    long (rules_over p) p.walk.tape.now c.args.lines.now c.count-candidates.result c.count-candidates.ensures (omega arith) c.write_lines.new.lines c.write_lines.ensures
