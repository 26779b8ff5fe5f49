use Rattle.std.proofs.Common.{arith, ◌∙◌, ◌^◌}
use Rattle.ir_part.proofs.Digits.{next_digit, last_digit}
use Rattle.ir_part.proofs.number.digits_value.Goals as goal

pub loop-digit-preserved : goal.loop-digit-preserved
loop-digit-preserved c = record { small = omega arith; same = rw (c.min-number.ensures, c.saturating_sub.ensures) (next_digit (2 ^ 64) c.loop-digit.number c.loop-digit.digit-index c.args.digits.now c.loop-digit-test.true ∙ c.loop-digit.invariant.same) }

pub returns : goal.returns
returns c = last_digit (2 ^ 64) c.loop-digit.number c.loop-digit.digit-index c.args.digits.now c.loop-digit-test.false c.loop-digit.invariant.small c.loop-digit.invariant.same
