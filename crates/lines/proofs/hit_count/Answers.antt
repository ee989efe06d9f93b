-- `hit_count` meets its contract: of no state that accepts no rule passes, and else the rules that pass are counted. Assumes nothing.
use Rattle.std.proofs.Common.{ℕ, ◌+◌, cond, ◌≡◌, rules, ap, ◌∙◌}
use Rattle.std.specs.List.{fold, range_with_len}
use Rattle.std.specs.declared.ops.Range.{Range}
use Rattle.book.specs.Reading.{book_of}
use Rattle.stretches.specs.Position.{hits}
use Rattle.stretches.proofs.Meets.{none_hits}
use Rattle.lines.specs.Coming.{bytes}
use Rattle.lines.proofs.Tallies.{range_items, hit_none, hit_filter}
use Rattle.lines.proofs.hit_count.Goals as goal

pub returns-then-end-walk-eq0 : goal.returns-then-end-walk-eq0
returns-then-end-walk-eq0 c =
    let e = c.args.end.now in
    hit_none (book_of (bytes e.start)) e.set e.right (none_hits _ _ _ e.start.pass.now.walk.outlined.tests e.set e.right c.if-end-walk-eq0.true)

pub returns : goal.returns
returns c =
    let e = c.args.end.now in
    let w = e.start.pass.now.walk in
    let p = c.count.ensures.runs in
    let q = c.filter.ensures.runs p.0 p.0.seen p.1 in
    let passes : ℕ → ℕ → ℕ = λ n r. n + cond (hits (book_of (bytes e.start)) e.set e.right r) 1 0 in
    let counted : p.0.len ≡ fold passes 0 q.0.items = q.2.5 passes (λ r b f n call. (search rules, search rules)) in
    let items : q.0.items ≡ range_with_len 0 w.rules = range_items q.0 w.rules (q.2.0 ∙ p.2) (ap (λ (r : Range ℕ). r.start) q.1) (ap (λ (r : Range ℕ). r.end) q.1) in
    p.3 ∙ counted ∙ ap (fold passes 0) items ∙ hit_filter (book_of (bytes e.start)) e.set e.right w.rules w.outlined.tests.many
