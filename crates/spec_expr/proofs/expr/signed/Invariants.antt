use Rattle.std.proofs.Common.{◌≡◌, ◌≤◌, length, take}
use Rattle.spec_ast.specs.View.{view_expr}
use Rattle.spec_expr.specs.Operators as operators
use Rattle.spec_expr.specs.Fronts.{grown, seen}
use Rattle.spec_expr.proofs.expr.signed.Given as goal

-- the signs that are left, over the tree so far, are the whole
abbrev pub invariant-loop-left : goal.invariant-loop-left
invariant-loop-left l = record {
  value : operators.signed 100 (seen (take l.left l.signs)) (grown view_expr l.tree) ≡ operators.signed 100 (seen l.signs) (grown view_expr l.fn.operand);
  within : l.left ≤ length l.signs;
}

abbrev pub decreases-loop-left : goal.decreases-loop-left
decreases-loop-left l = l.left
