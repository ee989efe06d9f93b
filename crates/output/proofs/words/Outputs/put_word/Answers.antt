-- `Outputs::put_word` meets its contract: the symbols so far stand in front, each with the start, and then the last origin is put in. Assumes nothing.
use Rattle.std.proofs.Common.{refl, arith}
use Rattle.output.proofs.Marks.{word_room, next_fits, next_put, all_put, word_short, last_bound, word_long}
use Rattle.output.proofs.words.Outputs.put_word.Goals as goal

pub put-requires : goal.put-requires
put-requires c =
    let f = next_fits c.args.word.now c.args.start c.args.self.now c.loop-symbol.self c.loop-symbol.symbol-index c.loop-symbol.invariant
    (word_room c.args.word.now c.args.start c.args.stop c.args.self.now c.requires.fits) c.loop-symbol-test.true in
    (omega arith, f.0, f.1)

pub loop-symbol-preserved : goal.loop-symbol-preserved
loop-symbol-preserved c =
    next_put c.args.word.now c.args.start c.args.self.now c.loop-symbol.self c.loop-symbol.symbol-index c.loop-symbol.invariant
    (word_room c.args.word.now c.args.start c.args.stop c.args.self.now c.requires.fits) c.loop-symbol-test.true c.put.new.self c.put.ensures

pub returns-then-word-le1 : goal.returns-then-word-le1
returns-then-word-le1 c =
    word_short c.args.word.now c.args.start c.args.stop c.args.self.now c.loop-symbol.self (omega arith)
    (all_put c.args.word.now c.args.start c.args.self.now c.loop-symbol.self c.loop-symbol.symbol-index c.loop-symbol.invariant (omega arith))

pub offset_bounds-self-self : goal.offset_bounds-self-self
offset_bounds-self-self c =
    omega (
      arith,
      last_bound c.args.word.now c.args.start c.args.stop c.args.self.now c.loop-symbol.self
          (word_room c.args.word.now c.args.start c.args.stop c.args.self.now c.requires.fits)
          (all_put c.args.word.now c.args.start c.args.self.now c.loop-symbol.self c.loop-symbol.symbol-index c.loop-symbol.invariant (omega arith)) (omega arith),
    )

pub bounds-self-self : goal.bounds-self-self
bounds-self-self c =
    last_bound c.args.word.now c.args.start c.args.stop c.args.self.now c.loop-symbol.self
    (word_room c.args.word.now c.args.start c.args.stop c.args.self.now c.requires.fits)
    (all_put c.args.word.now c.args.start c.args.self.now c.loop-symbol.self c.loop-symbol.symbol-index c.loop-symbol.invariant (omega arith)) (omega arith)

pub returns : goal.returns
returns c =
    word_long c.args.word.now c.args.start c.args.stop c.args.self.now c.loop-symbol.self
    (word_room c.args.word.now c.args.start c.args.stop c.args.self.now c.requires.fits)
    (all_put c.args.word.now c.args.start c.args.self.now c.loop-symbol.self c.loop-symbol.symbol-index c.loop-symbol.invariant (omega arith))
    (omega arith) _ refl _ (omega arith) refl
