use Rattle.std.proofs.Common.{arith, [], ◌∷◌}
use Rattle.ir_ast.specs.Plain.{integer}
use Rattle.ir_ast.specs.View.{view_type}
use Rattle.ir_ast.specs.declared.types.IrType.{IrType}
use Rattle.ir_ast.specs.declared.operand.Operand.{Operand}
use Rattle.ir_typing.specs.Scoped.{types_in}
use Rattle.ir_typing.proofs.Agreeing.{other_length}
use Rattle.ir_typing.proofs.calls.are_two.Goals as goal

pub returns-in_default-clause-same : goal.returns-in_default-clause-same
returns-in_default-clause-same c = other_length (types_in c.args.scope.now) (λ (a : IrType × Operand). view_type a.0) c.args.arguments.now (integer c.args.first ∷ integer c.args.second ∷ [])
    (λ e. let l = c.in_default.len_below in omega arith)

pub returns-in_default-2-clause-same : goal.returns-in_default-2-clause-same
returns-in_default-2-clause-same c = other_length (types_in c.args.scope.now) (λ (a : IrType × Operand). view_type a.0) c.args.arguments.now (integer c.args.first ∷ integer c.args.second ∷ [])
    (λ e. let l = c.in_default.len_at_least in omega arith)
