use Rattle.std.proofs.Common.{◌≡◌, ◌<◌, arith, sym, subst}
use Rattle.hk_term.specs.Operations.{urem_value}
use Rattle.hk_range.specs.Ranges.{InRange}
use Rattle.hk_range.proofs.RangeLaws.{urem_small}
use Rattle.hk_range.proofs.range.remainder.Goals as goal

pub returns-then-p-q : goal.returns-then-p-q
returns-then-p-q c = λ a b p q any.
    let less : a < b = omega (arith, p.most, q.least, c.if-p-q.true) in
    subst (InRange c.args.p) (sym (urem_small c.args.w a b less)) p
