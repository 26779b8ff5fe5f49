use Rattle.std.proofs.Common.{◌∙◌}
use Rattle.ir_ast.specs.View.{view_type}
use Rattle.ir_layout.proofs.Laid.{offset_answered, measured}
use Rattle.ir_layout.proofs.layout.Layout.field_offset.Goals as goal

pub returns-clause-offset : goal.returns-clause-offset
returns-clause-offset c =
    λ m h t b. c.offset_of.ensures ∙ offset_answered m c.args.self.now h (view_type c.args.over.now) (measured m (view_type c.args.over.now) h.laid_out t) c.args.field b

pub returns-clause-small : goal.returns-clause-small
returns-clause-small c = λ m h s b. c.offset_of.ensures ∙ offset_answered m c.args.self.now h (view_type c.args.over.now) s c.args.field b
