use Rattle.std.proofs.Common.{◌∙◌, ap, int_eq, to_z, of_z, to_z-of_z}
use Rattle.std.specs.Int.{w128}
use Rattle.ir_typing.proofs.Powers.{same_beyond, signed_distance}
use Rattle.ir_typing.proofs.literal.same_modulo.Goals as goal

pub returns-then-width-ge128 : goal.returns-then-width-ge128
returns-then-width-ge128 c =
    c.same_whole.ensures
    ∙ ap (λ x. int_eq x (to_z w128 (of_z w128 c.args.second))) (to_z-of_z c.ranges.first)
    ∙ ap (int_eq c.args.first) (to_z-of_z c.ranges.second)
    ∙ same_beyond c.args.width c.args.first c.args.second c.if-width-ge128.true (signed_distance c.args.first c.ranges.first) (signed_distance c.args.second c.ranges.second)
