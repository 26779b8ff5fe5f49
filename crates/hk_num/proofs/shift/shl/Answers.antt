use Rattle.std.proofs.Common.{arith, sym, ◌*◌, ◌^◌, ◌∙◌}
use Rattle.hk_num.proofs.Words.{cut, shifted_out}
use Rattle.hk_num.proofs.shift.shl.Goals as goal

pub returns-then-b-lt64 : goal.returns-then-b-lt64
returns-then-b-lt64 c = c.low.ensures ∙ cut (c.args.a * 2 ^ c.args.b) c.args.w c.requires.within

pub returns-else-b-lt64 : goal.returns-else-b-lt64
returns-else-b-lt64 c = sym (shifted_out c.args.w c.args.a c.args.b (omega (arith, c.if-b-lt64.false, c.requires.within)))
