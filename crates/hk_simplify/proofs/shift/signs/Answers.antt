use Rattle.std.proofs.Common.{◌<◌, arith}
use Rattle.hk_term.specs.Shape.{width}
use Rattle.hk_simplify.proofs.NumberLaws.{power_fits}
use Rattle.hk_simplify.proofs.shift.signs.Goals as goal

pub binary_number-requires-clause-number : goal.binary_number-requires-clause-number
binary_number-requires-clause-number c =
    let small : c.from.result < width c.args.t.now c.args.a = omega (arith, c.from.ensures, c.sized-w.ensures.width, c.sized-w.ensures.is_width) in
    power_fits c.from.result (width c.args.t.now c.args.a) small
