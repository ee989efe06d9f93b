-- `Scan::test_rule` meets its contract: each answer rewrites `rule_reply` with the tests that led to it. Assumes nothing.
use mathlib.Core.Path.{◌∙◌, sym}
use borrow.Author.Tests.{le-ltb, lt-ltb, le-leb, lt-leb}
use native.Mathlib.Omega.{arith}
use Rattle.book.specs.Format.{longest_word, rule_reply}
use Rattle.book.proofs.Laws.{size_rule}
use Rattle.book.proofs.Scan.test_rule.Goals as goal

pub returns-then-self-ge-RULES : goal.returns-then-self-ge-RULES
unfolding rule_reply
returns-then-self-ge-RULES c = simp (le-leb _ _ c.if-self-ge-RULES.true)

pub byte-n-requires : goal.byte-n-requires
byte-n-requires c = omega (arith, size_rule c.requires)

pub returns-then-n-gt-WORD : goal.returns-then-n-gt-WORD
unfolding rule_reply
returns-then-n-gt-WORD c = simp (lt-leb _ _ c.if-self-ge-RULES.false, ← c.byte-n.ensures, lt-ltb longest_word _ c.if-n-gt-WORD.true)

pub symbols_fit-requires : goal.symbols_fit-requires
symbols_fit-requires c = omega (arith, size_rule c.requires, c.args.record.now.whole)

pub returns-then-symbols_fit : goal.returns-then-symbols_fit
unfolding rule_reply
returns-then-symbols_fit c =
    simp (
      lt-leb _ _ c.if-self-ge-RULES.false,
      ← c.byte-n.ensures,
      le-ltb longest_word _ c.if-n-gt-WORD.false,
      sym c.symbols_fit.ensures ∙ c.if-symbols_fit.true,
    )

pub returns-else-symbols_fit : goal.returns-else-symbols_fit
unfolding rule_reply
returns-else-symbols_fit c =
    simp (
      lt-leb _ _ c.if-self-ge-RULES.false,
      ← c.byte-n.ensures,
      le-ltb longest_word _ c.if-n-gt-WORD.false,
      sym c.symbols_fit.ensures ∙ c.if-symbols_fit.false,
    )
