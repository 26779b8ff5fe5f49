use Rattle.std.proofs.Common.{◌≤◌, ◌/◌, ◌-◌, ◌^◌, arith, ap, sym, subst}
use Rattle.hk_range.specs.Ranges.{InRange}
use Rattle.hk_range.proofs.RangeLaws.{sign_small}
use Rattle.hk_range.proofs.range.sign_extended.Goals as goal

pub returns : goal.returns
returns c = λ to a wider p any.
    let below : a ≤ (2 ^ c.args.from - 1) / 2 = omega (arith, p.most, c.if-p-half.false, ap (λ n. n / 2) c.greatest-half.ensures) in
    subst (InRange c.args.p) (sym (sign_small c.args.from to a c.requires.0 wider below)) p
