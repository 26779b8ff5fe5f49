use Rattle.std.proofs.Common.{◌≡◌, ◌+◌, ◌*◌, true, get_or, ◌∙◌, sym, arith}
use Rattle.std.specs.Char.{is_ascii_digit, digit_value}
use Rattle.hk_cnf.proofs.Splits.{natural-more}
use Rattle.hk_lrat.proofs.Words.{digit-is, digit-small}
use Rattle.hk_lrat.proofs.token.quick_number.Goals as goal

pub loop-read-preserved : goal.loop-read-preserved
loop-read-preserved c =
    let line = c.args.line.now in
    let i = c.loop-read.read in
    let digit : is_ascii_digit (get_or line i 0) ≡ true = sym c.is_ascii_digit.ensures.value ∙ c.if-is_ascii_digit.true in
    let value : c.from.result ≡ digit_value (get_or line i 0) = digit-is (get_or line i 0) c.from.result digit c.from.ensures in
    let more = natural-more 0 line i c.loop-read.value (c.loop-read.value * 10 + c.from.result) c.loop-read-test.true c.loop-read.invariant.1 c.loop-read.invariant.2 digit (omega (arith, value)) in
    let small = digit-small (get_or line i 0) c.from.result digit c.from.ensures in
    (omega (arith, c.loop-read-test.true), more.0, more.1, omega (arith, small, c.if-value-gt-QUICK.false))
