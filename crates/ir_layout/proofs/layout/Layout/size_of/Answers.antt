use Rattle.std.proofs.Common.{ap, ◌∙◌}
use Rattle.ir_ast.specs.View.{view_type}
use Rattle.ir_layout.specs.Facts.{known_size}
use Rattle.ir_layout.proofs.Laid.{size_answered, measured}
use Rattle.ir_layout.proofs.layout.Layout.size_of.Goals as goal

pub returns-clause-size : goal.returns-clause-size
returns-clause-size c =
    λ m h t. c.known_size.ensures ∙ ap known_size c.fact.ensures ∙ size_answered m c.args.self.now h (view_type c.args.over.now) (measured m (view_type c.args.over.now) h.laid_out t)

pub returns-clause-small : goal.returns-clause-small
returns-clause-small c = λ m h s. c.known_size.ensures ∙ ap known_size c.fact.ensures ∙ size_answered m c.args.self.now h (view_type c.args.over.now) s
