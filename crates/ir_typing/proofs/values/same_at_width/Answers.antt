use Rattle.ir_ast.specs.View.{view_operand}
use Rattle.ir_ast.specs.ProgramView.{view_entries, view_type_entry}
use Rattle.ir_typing.proofs.ValueLaws.{value_told}
use Rattle.ir_typing.proofs.values.same_at_width.Goals as goal

pub returns-clause-same : goal.returns-clause-same
returns-clause-same c = λ t width.
    value_told (view_entries view_type_entry c.args.types.now) t (view_operand c.args.first.now) (view_operand c.args.second.now) c.args.width c.in_ok-same.same width c.in_ok-same.ensures.same
