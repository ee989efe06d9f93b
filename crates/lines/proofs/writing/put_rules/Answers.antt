-- `put_rules` meets its contract: the lines of the rules below r are written, each where its rule passes. Assumes nothing.
use Rattle.std.proofs.Common.{◌<◌, length, refl, sym, ◌∙◌, arith}
use Rattle.book.specs.Reading.{book_of}
use Rattle.stretches.specs.Position.{hits}
use Rattle.stretches.proofs.Meets.{none_hits}
use Rattle.lines.specs.Coming.{bytes}
use Rattle.lines.specs.Lines.{line_by}
use Rattle.lines.proofs.Written.{lined_none, lined_start, lined_room, lined_turn, lined_end, kept_room, kept_yes, kept_no}
use Rattle.lines.proofs.writing.put_rules.Goals as goal
use Rattle.lines.proofs.writing.put_rules.Goals.{then-hits, else-hits}

pub returns-then-end-walk-eq0 : goal.returns-then-end-walk-eq0
returns-then-end-walk-eq0 c =
    let e = c.args.end.now in
    record {
      put = lined_none (book_of (bytes e.start)) e.set e.right e.start.at e.at c.args.d c.args.to.now.lines.now c.args.to.now.at
          (none_hits _ _ _ e.start.pass.now.walk.outlined.tests e.set e.right c.if-end-walk-eq0.true);
      same_buffer = refl;
    }

pub loop-r-init : goal.loop-r-init
loop-r-init c =
    let e = c.args.end.now in
    (lined_start (book_of (bytes e.start)) e.set e.right e.start.at e.at c.args.d c.args.to.now.lines.now c.args.to.now.at c.requires.room, refl)

pub put_line-requires : goal.put_line-requires
put_line-requires c =
    let e = c.args.end.now in
    let b = book_of (bytes e.start) in
    let t = e.start.pass.now.walk.outlined.tests in
    let h : c.loop-r.r < length b.words = omega (arith, t.many, c.loop-r-test.true) in
    record {
      r_lt_most_rules = (omega (arith, t.sound.rules), c.requires.decides);
      room = kept_room c.hits.result (hits b e.set e.right c.loop-r.r) (line_by e.start.at e.at c.loop-r.r c.args.d) c.loop-r.to.at c.loop-r.to.lines.now c.hits.ensures c.if-hits.true
          (lined_room b e.set e.right e.start.at e.at c.args.d c.args.to.now.lines.now c.loop-r.to.lines.now c.args.to.now.at c.loop-r.to.at c.loop-r.r c.loop-r.invariant.0 h);
    }

pub loop-r-preserved : goal.loop-r-preserved
loop-r-preserved c =
    let e = c.args.end.now in
    let b = book_of (bytes e.start) in
    let h : c.loop-r.r < length b.words = omega (arith, e.start.pass.now.walk.outlined.tests.many, c.loop-r-test.true) in
    let turn = lined_turn b e.set e.right e.start.at e.at c.args.d c.args.to.now.lines.now c.loop-r.to.lines.now c.args.to.now.at c.loop-r.to.at c.loop-r.r c.loop-r.invariant.0 h in
    let line = line_by e.start.at e.at c.loop-r.r c.args.d in
    elim c.if-hits.branch [
      | then-hits w ↦
          rw w.to-is (
            turn _ _ (kept_yes c.hits.result (hits b e.set e.right c.loop-r.r) line c.loop-r.to.at c.loop-r.to.lines.now _ _ c.hits.ensures w.if-hits.true
                (rw (sym w.verdict_of.ensures) w.put_line.ensures.put)),
            w.put_line.ensures.same_buffer ∙ c.loop-r.invariant.1,
          )
      | else-hits w ↦
          rw w.to-is (
            turn _ _ (kept_no c.hits.result (hits b e.set e.right c.loop-r.r) line c.loop-r.to.at c.loop-r.to.lines.now c.hits.ensures w.if-hits.false),
            c.loop-r.invariant.1,
          )
    ]

pub returns : goal.returns
returns c =
    let e = c.args.end.now in
    record {
      put = lined_end (book_of (bytes e.start)) e.set e.right e.start.at e.at c.args.d c.args.to.now.lines.now c.loop-r.to.lines.now c.args.to.now.at c.loop-r.to.at c.loop-r.r
          c.loop-r.invariant.0 (omega (arith, e.start.pass.now.walk.outlined.tests.many));
      same_buffer = c.loop-r.invariant.1;
    }
