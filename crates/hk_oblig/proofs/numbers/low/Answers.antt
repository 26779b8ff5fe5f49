use Rattle.std.proofs.Common.{sym, mod-eq_of_lt}
use Rattle.hk_oblig.proofs.Turns.{wide}
use Rattle.hk_oblig.proofs.numbers.low.Goals as goal

pub returns-else-width-lt64 : goal.returns-else-width-lt64
returns-else-width-lt64 c = sym (mod-eq_of_lt (wide c.args.number c.args.width c.ranges.number.fits c.if-width-lt64.false))
