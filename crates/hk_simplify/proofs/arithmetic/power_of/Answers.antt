use Rattle.std.proofs.Common.{◌<◌, arith}
use Rattle.hk_term.specs.Shape.{width}
use Rattle.hk_simplify.proofs.NumberLaws.{power_fits}
use Rattle.hk_simplify.proofs.arithmetic.power_of.Goals as goal

pub returns-then-k-w-clause-number : goal.returns-then-k-w-clause-number
returns-then-k-w-clause-number c =
    let small : c.from.result < width c.args.t.now c.args.a = omega (arith, c.if-k-w.true, c.from.ensures, c.sized-w.ensures.width) in
    power_fits c.from.result (width c.args.t.now c.args.a) small
