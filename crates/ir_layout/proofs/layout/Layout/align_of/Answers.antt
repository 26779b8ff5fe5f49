use Rattle.std.proofs.Common.{ap, ◌∙◌}
use Rattle.ir_ast.specs.View.{view_type}
use Rattle.ir_layout.specs.Facts.{known_align}
use Rattle.ir_layout.proofs.Laid.{align_answered}
use Rattle.ir_layout.proofs.layout.Layout.align_of.Goals as goal

pub returns-clause-align : goal.returns-clause-align
returns-clause-align c = λ m h. c.known_align.ensures ∙ ap known_align c.fact.ensures ∙ align_answered m c.args.self.now h (view_type c.args.over.now)
