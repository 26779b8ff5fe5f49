use Rattle.std.proofs.Common.{subst}
use Rattle.ir_ast.specs.ProgramView.{view_module}
use Rattle.spec_tree.specs.View.{view_spec}
use Rattle.hk_decide.specs.Right.{IsRight}
use Rattle.hk_agree_tests.proofs.decided.by_clauses.Goals as goal

pub is_confirmed-requires-clause-refuted : goal.is_confirmed-requires-clause-refuted
is_confirmed-requires-clause-refuted c = λ l t laid found.
    subst (IsRight 1000000 (view_module c.args.kernel.now) l.objects (view_spec c.args.spec.now) t) c.in-Rejected.is (c.in_ok-verdict.ensures.right l t laid found)
