use Rattle.std.proofs.Common.{ℕ, List, sym, ap, ◌∙◌}
use Rattle.ir_type.specs.Whole.{meant, is_same}
use Rattle.ir_ast.specs.View.{view_type}
use Rattle.ir_ast.specs.declared.types.IrType.{IrType}
use Rattle.ir_ast.specs.declared.operand.Operand.{Operand}
use Rattle.ir_typing.specs.Scoped.{types_in}
use Rattle.ir_typing.proofs.Agreeing.{next_agree, next_differ, all_agree}
use Rattle.ir_typing.proofs.calls.parameters_agree.Goals as goal

pub loop-at-preserved : goal.loop-at-preserved
loop-at-preserved c = record {
  typed = c.same_type.ensures.typed;
  left = next_agree (types_in c.args.scope.now) (λ (a : IrType × Operand). view_type a.0) (λ (p : IrType × List ℕ). view_type p.0) c.args.arguments.now c.args.parameters.now c.loop-at.at
      c.index-arguments-at.result c.index-parameters-at.result _ _ c.loop-at-test.true c.requires.count c.index-arguments-at.is c.index-parameters-at.is (c.in_ok-same_type.ensures.same ∙ ap (λ (p : IrType × List ℕ). is_same (meant (types_in c.args.scope.now) (view_type c.index-arguments-at.result.0)) (meant (types_in c.args.scope.now) (view_type p.0))) (sym c.index-parameters-at.is)) c.if-not-branch.false c.loop-at.invariant.left;
}

pub returns-then-not-branch-clause-same : goal.returns-then-not-branch-clause-same
returns-then-not-branch-clause-same c =
    next_differ (types_in c.args.scope.now) (λ (a : IrType × Operand). view_type a.0) (λ (p : IrType × List ℕ). view_type p.0) c.args.arguments.now c.args.parameters.now c.loop-at.at
    c.index-arguments-at.result c.index-parameters-at.result _ _ c.loop-at-test.true c.requires.count c.index-arguments-at.is c.index-parameters-at.is (c.in_ok-same_type.ensures.same ∙ ap (λ (p : IrType × List ℕ). is_same (meant (types_in c.args.scope.now) (view_type c.index-arguments-at.result.0)) (meant (types_in c.args.scope.now) (view_type p.0))) (sym c.index-parameters-at.is)) c.if-not-branch.true c.loop-at.invariant.left

pub returns-clause-same : goal.returns-clause-same
returns-clause-same c =
    all_agree (types_in c.args.scope.now) (λ (a : IrType × Operand). view_type a.0) (λ (p : IrType × List ℕ). view_type p.0) c.args.arguments.now c.args.parameters.now c.loop-at.at
    _ c.loop-at-test.false c.requires.count c.loop-at.invariant.left
