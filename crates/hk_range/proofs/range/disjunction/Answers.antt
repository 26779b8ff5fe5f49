use Rattle.std.proofs.Common.{arith}
use Rattle.std.proofs.lemmas.Nat.{le_or_l, le_or_r}
use Rattle.hk_range.proofs.RangeLaws.{or_most}
use Rattle.hk_range.proofs.range.disjunction.Goals as goal

pub returns : goal.returns
returns c = λ a b p q any.
    let l = le_or_l a b in
    let r = le_or_r a b in
    let h = or_most a b in
    record { least = omega (arith, p.least, q.least, l, r); most = omega (arith, p.most, q.most, h) }
