use Rattle.std.proofs.Common.{◌≡◌, ◌+◌, ◌*◌, ◌%◌, ◌^◌, ◌<◌, ◌≤◌, ap, arith}
use Rattle.std.proofs.Math.Nat.{mod-eq_of_lt}
use Rattle.std.proofs.Math.Pow.{pow_mono}
use Rattle.hk_term.proofs.KindLemmas.{joined_below}
use Rattle.hk_term.proofs.operations.concat.Goals as goal

joined : (c : goal.Start) → c.args.a * 2 ^ c.args.u + c.args.b < 2 ^ 64
joined c =
    let within : 2 ^ (c.args.w + c.args.u) ≤ 2 ^ 64 = pow_mono c.requires.fits in
    omega (arith, joined_below c.args.w c.args.u c.args.a c.args.b c.requires.first c.requires.second)

shifted : (c : goal.Start) → c.args.a * 2 ^ c.args.u % 2 ^ 64 ≡ c.args.a * 2 ^ c.args.u
shifted c = mod-eq_of_lt (omega (arith, joined c))

pub overflow_add-result : goal.overflow_add-result
overflow_add-result c = omega (arith, joined c, shifted c)

pub returns : goal.returns
returns c = ap (λ n. n + c.args.b) (shifted c)
