use Rattle.std.proofs.Common.{sym, ◌∙◌}
use Rattle.hk_cnf.proofs.Splits.{not-numeral, digits-more}
use Rattle.hk_cnf.proofs.dimacs_read.is_numeral.Goals as goal

pub returns-then-not-is_ascii_digit : goal.returns-then-not-is_ascii_digit
returns-then-not-is_ascii_digit c =
    not-numeral c.args.word.now c.loop-byte.byte-index c.loop-byte-test.true (sym c.is_ascii_digit.ensures.value ∙ c.if-not-is_ascii_digit.true)

pub loop-byte-preserved : goal.loop-byte-preserved
loop-byte-preserved c =
    digits-more c.args.word.now c.loop-byte.byte-index c.loop-byte-test.true c.loop-byte.invariant (sym c.is_ascii_digit.ensures.value ∙ c.if-not-is_ascii_digit.false)
