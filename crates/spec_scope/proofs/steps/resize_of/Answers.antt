use Rattle.spec_tree.specs.View.{view_expr}
use Rattle.spec_scope.proofs.Inferring.{resize_typed}
use Rattle.spec_scope.proofs.steps.resize_of.Goals as goal

pub returns-in_ok-tree-in-Some : goal.returns-in_ok-tree-in-Some
returns-in_ok-tree-in-Some c s b e is =
    resize_typed s b e c.args.op c.args.a.kind c.in-Number.w c.in-Some.to.1 c.in-Some.to.0 (view_expr c.args.a.tree) (view_expr c.in_ok-tree-in-Some.tree)
    c.in-Number.is c.in_ok-tree-in-Some.ensures c.in-Some.ensures.0 c.in-Some.ensures.1 c.in-Some.ensures.2 is
