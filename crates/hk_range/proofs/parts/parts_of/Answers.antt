use Rattle.std.proofs.Common.{ap, subst, ◌∙◌}
use Rattle.hk_term.specs.Shape.{NodeFits, width}
use Rattle.hk_term.specs.Meaning.{node_value, value}
use Rattle.hk_term.specs.declared.node.Node.{Node}
use Rattle.hk_range.proofs.parts.parts_of.Goals as goal

pub returns-in-Binary : goal.returns-in-Binary
returns-in-Binary c =
    c.binary_parts.ensures c.args.a (λ v. c.node.ensures.holds.value_is v ∙ ap (λ (n : Node). node_value n (value c.args.t.now) (width c.args.t.now) v) c.in-Binary.is)

pub returns-in-Resize : goal.returns-in-Resize
returns-in-Resize c =
    c.resized_parts.ensures c.args.a (λ v. c.node.ensures.holds.value_is v ∙ ap (λ (n : Node). node_value n (value c.args.t.now) (width c.args.t.now) v) c.in-Resize.is)

pub resized_parts-requires-clause-fits : goal.resized_parts-requires-clause-fits
resized_parts-requires-clause-fits c = (subst (NodeFits c.args.a (width c.args.t.now)) c.in-Resize.is c.node.ensures.holds.fits).1
