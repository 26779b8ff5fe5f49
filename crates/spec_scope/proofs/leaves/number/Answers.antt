use Rattle.std.proofs.Common.{◌∙◌, ap, to_z-of_z}
use Rattle.hk_num.specs.Numbers.{number_of}
use Rattle.spec_scope.proofs.Powers.{cut_number}
use Rattle.spec_scope.proofs.leaves.number.Goals as goal

pub returns : goal.returns
returns c =
    cut_number c.args.w c.args.n c.wrapped.result c.from.result c.requires (c.wrapped.ensures ∙ ap (number_of 64) (to_z-of_z c.ranges.n)) c.from.ensures
