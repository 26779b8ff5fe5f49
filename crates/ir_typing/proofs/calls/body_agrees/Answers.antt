use Rattle.std.proofs.Common.{ℕ, List, map}
use Rattle.ir_ast.specs.View.{view_type}
use Rattle.ir_ast.specs.declared.types.IrType.{IrType}
use Rattle.ir_ast.specs.declared.operand.Operand.{Operand}
use Rattle.ir_typing.specs.Scoped.{types_in}
use Rattle.ir_typing.proofs.Agreeing.{other_lengths, body_agrees}
use Rattle.ir_typing.proofs.calls.body_agrees.Goals as goal

pub returns-then-arguments-parameters-clause-same : goal.returns-then-arguments-parameters-clause-same
returns-then-arguments-parameters-clause-same c =
    body_agrees (types_in c.args.scope.now) (view_type c.args.gives.now) (map (λ (a : IrType × Operand). view_type a.0) c.args.arguments.now) c.args.function.now c.as_slice-parameters.result.now c.as_slice-parameters.ensures.value
    _ c.in_ok-same_type.ensures.same c.if-not-branch.false _
    (other_lengths (types_in c.args.scope.now) (λ (a : IrType × Operand). view_type a.0) (λ (p : IrType × List ℕ). view_type p.0) c.args.arguments.now c.as_slice-parameters.result.now
    c.if-arguments-parameters.true)

pub returns-clause-same : goal.returns-clause-same
returns-clause-same c =
    body_agrees (types_in c.args.scope.now) (view_type c.args.gives.now) (map (λ (a : IrType × Operand). view_type a.0) c.args.arguments.now) c.args.function.now c.as_slice-parameters.result.now c.as_slice-parameters.ensures.value
    _ c.in_ok-same_type.ensures.same c.if-not-branch.false _ c.in_ok-agree.ensures.same
