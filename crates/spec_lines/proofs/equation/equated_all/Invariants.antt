use Rattle.std.proofs.Common.{◌≡◌, ◌++◌, map, drop}
use Rattle.spec_ast.specs.View.{view_expr}
use Rattle.spec_scope.specs.View.{view_scope}
use Rattle.spec_lines.specs.Equations.{equated_by}
use Rattle.spec_lines.proofs.equation.equated_all.Given as goal

abbrev pub invariant-each : goal.invariant-each
invariant-each l =
    l.places.items ++ equated_by (view_scope l.scope) (map view_expr (drop l.e-index l.es)) ≡ equated_by (view_scope l.scope) (map view_expr l.es)
