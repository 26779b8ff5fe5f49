use Rattle.std.proofs.Common.{◌≡◌, ◌+◌, ◌-◌, ◌^◌, min, sum, subst, arith}
use Rattle.spec_state.proofs.Turns.{drop_end}
use Rattle.hk_exhaust.proofs.counts.bits_of_arguments.Goals as goal

pub returns : goal.returns
returns c =
    let i : min (c.each.bits + 0) (2 ^ 64 - 1) ≡ min (sum c.args.widths.now) (2 ^ 64 - 1) =
    subst (λ l. min (c.each.bits + sum l) (2 ^ 64 - 1) ≡ min (sum c.args.widths.now) (2 ^ 64 - 1)) (drop_end c.args.widths.now c.each.width-index c.each-test.false) c.each.invariant.bits in
    omega (arith, i, c.each.invariant.fits)
