use Rattle.std.proofs.Common.{rules, arith, ◌≤◌}
use Rattle.std.proofs.lemmas.Nat.{pow_pos}
use Rattle.hk_symspec_tests.proofs.fitting.is_below.Goals as goal

pub returns : goal.returns
returns c = λ yes.
    let low : c.args.number ≤ c.greatest-most.result = search rules in
    omega (arith, low, c.greatest-most.ensures, pow_pos c.args.bits)
