use Rattle.std.proofs.Common.{refl, arith, ◌∙◌}
use Rattle.spec_tree.specs.Value.{tuple_at}
use Rattle.spec_state.proofs.Points.{entered_stands, length_tuple}
use Rattle.spec_state.proofs.fields.number_at.Goals as goal

pub number_of-requires-clause-stands : goal.number_of-requires-clause-stands
number_of-requires-clause-stands c =
    entered_stands c.args.reading.now c.args.frame.now _ c.args.sizes.now c.args.k c.requires.stands (omega (arith, c.requires.all, c.requires.within)) c.in_ok-enter.ensures

pub returns-clause-kept : goal.returns-clause-kept
returns-clause-kept c =
    c.leave.ensures c.args.frame.now c.args.sizes.now (tuple_at c.args.sizes.now c.args.k) (c.in_ok-number.ensures.kept ∙ c.in_ok-enter.ensures) refl (length_tuple c.args.sizes.now c.args.k)
