use Rattle.std.proofs.Common.{◌≡◌, rules}
use Rattle.hk_simplify.proofs.RingLaws.{operand_is}
use Rattle.hk_simplify.proofs.plain.operand.Goals as goal

pub returns-in-Unary-clause-value : goal.returns-in-Unary-clause-value
returns-in-Unary-clause-value c =
    let of : c.in-Unary.of ≡ c.args.kind = search rules in
    let holds = rw c.in-Unary.is at c.node.ensures.holds in
    λ v. operand_is _ _ _ _ _ _ of holds.width_is (holds.value_is v) (rw c.sized-w.ensures.width at (c.sized-w.ensures.below v))
