use Rattle.std.proofs.Common.{arith, sym}
use Rattle.hk_num.proofs.Words.{shifted_off}
use Rattle.hk_num.proofs.shift.lshr.Goals as goal

pub returns-else-b-lt64 : goal.returns-else-b-lt64
returns-else-b-lt64 c = sym (shifted_off c.args.a c.args.w c.args.b c.requires.first (omega (arith, c.if-b-lt64.false, c.requires.within)))
