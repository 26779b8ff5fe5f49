use Rattle.std.proofs.Common.{◌≡◌, ◌/◌, ◌%◌, ◌^◌, ◌≤◌, arith}
use Rattle.std.proofs.Math.Nat.{mod-eq_of_lt}
use Rattle.std.proofs.Math.Pow.{shr_mono}
use Rattle.std.proofs.lemmas.Nat.{pow_pos}
use Rattle.hk_range.proofs.range.extracted.Goals as goal

pub returns : goal.returns
returns c = λ a p any.
    let up : a / 2 ^ c.args.low ≤ c.args.p.hi / 2 ^ c.args.low = shr_mono c.args.low p.most in
    let down : c.args.p.lo / 2 ^ c.args.low ≤ a / 2 ^ c.args.low = shr_mono c.args.low p.least in
    let whole : a / 2 ^ c.args.low % 2 ^ c.args.to ≡ a / 2 ^ c.args.low =
    mod-eq_of_lt (omega (arith, up, c.right-hi.ensures, c.greatest-most.ensures, c.if-hi-most.false, pow_pos c.args.to)) in
    record { least = omega (arith, whole, down, c.right.ensures); most = omega (arith, whole, up, c.right-hi.ensures) }
