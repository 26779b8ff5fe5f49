use Rattle.std.proofs.Common.{arith}
use Rattle.hk_symvalue.proofs.NumberLaws.{below_power}
use Rattle.hk_symvalue.proofs.numbers.is_far.Goals as goal

pub number-requires-clause-number : goal.number-requires-clause-number
number-requires-clause-number c = omega (arith, below_power c.sized-w.result, c.from.ensures)
