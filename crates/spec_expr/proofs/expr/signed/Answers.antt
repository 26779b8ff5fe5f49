use Rattle.std.proofs.Common.{◌-◌, ◌≤◌, length, arith}
use Rattle.spec_ast.specs.View.{view_expr}
use Rattle.spec_expr.specs.Operators as operators
use Rattle.spec_expr.specs.Fronts.{grown, seen}
use Rattle.spec_expr.proofs.Operands.{signed_turn}
use Rattle.spec_expr.proofs.expr.signed.Goals as goal

pub loop-left-preserved : goal.loop-left-preserved
loop-left-preserved c = record {
  value =
      signed_turn 100 c.args.signs.now (grown view_expr c.loop-left.tree) (grown view_expr c.in_ok-tree.tree) c.loop-left.left _ c.sign_of.result
      (operators.signed 100 (seen c.args.signs.now) (grown view_expr c.args.operand)) c.loop-left-test.true c.loop-left.invariant.within c.sign_of.ensures c.in_ok-tree.ensures c.loop-left.invariant.value;
  within = omega (arith, c.loop-left.invariant.within);
}
