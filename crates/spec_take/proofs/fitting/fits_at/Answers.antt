use Rattle.std.proofs.Common.{rules, ◌≡◌, Some, []}
use Rattle.spec_ast.specs.View.{view_expr as view_raw}
use Rattle.spec_tree.specs.View.{view_expr}
use Rattle.spec_scope.specs.Taking as definition
use Rattle.spec_scope.specs.View.{view_scope}
use Rattle.spec_take.proofs.fitting.fits_at.Goals as goal

pub returns-in-Ok : goal.returns-in-Ok
returns-in-Ok c =
    let there : definition.take (view_scope c.args.scope.now) [] c.args.kind (view_raw c.args.e.now) ≡ Some (view_expr c.in-Ok.tree) = search rules in
    (view_expr c.in-Ok.tree, there)
