-- `rewriter::ready::make_ready` meets its contract: not built, or ready, as the definition says. Assumes nothing.
use Rattle.std.proofs.Common.{◌≡◌, true, arith, rules}
use Rattle.std.specs.Result.{is_ok}
use Rattle.rewriter.proofs.MakeReady.{opening_admitted, leaves_ready, counted}
use Rattle.rewriter.proofs.ready.make_ready.Goals as goal

pub number_both-requires : goal.number_both-requires
number_both-requires c =
    let p = opening_admitted c.args.outline.now.states.book.now c.args.tape.now c.args.rows.now c.args.sets.now c.args.scratch.now c.requires in
    record { row_bytes_in_bounds = (p.rows_room, p.sets_room) }

pub backward-requires : goal.backward-requires
backward-requires c =
    let p = opening_admitted c.args.outline.now.states.book.now c.args.tape.now c.args.rows.now c.args.sets.now c.args.scratch.now c.requires in
    record {
      tape_in_bounds = p.scratch_room;
      row_bytes_in_bounds = omega (arith, p.rows_room, c.number_both.auto);
      symbols = p.symbols;
    }

pub returns : goal.returns
returns c =
    let passed : is_ok c.number_both.result ≡ true = search rules in
    leaves_ready c.args.outline.now.states.book.now c.args.tape.now c.args.rows.now c.args.sets.now c.args.scratch.now c.requires _ _ _ c.number_both.ensures
    (counted _ passed) _ c.backward.ensures
