use Rattle.std.proofs.Common.{sym}
use Rattle.std.proofs.Math.Nat.{div-eq_of_lt}
use Rattle.hk_exhaust.proofs.Parts.{wide}
use Rattle.hk_exhaust.proofs.numbers.high.Goals as goal

pub returns-else-width-lt64 : goal.returns-else-width-lt64
returns-else-width-lt64 c = sym (div-eq_of_lt (wide c.args.number c.args.width c.ranges.number.fits c.if-width-lt64.false))
