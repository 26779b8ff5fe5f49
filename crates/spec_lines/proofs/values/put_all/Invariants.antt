use Rattle.std.proofs.Common.{◌≡◌, map, drop}
use Rattle.spec_ast.specs.View.{view_expr}
use Rattle.spec_scope.specs.View.{view_scope}
use Rattle.spec_lines.specs.Faults.{values_from}
use Rattle.spec_lines.specs.MadeView.{view_values}
use Rattle.spec_lines.proofs.values.put_all.Given as goal

abbrev pub invariant-each : goal.invariant-each
invariant-each l =
    values_from (view_scope l.scope) (view_values l.values.items) (map view_expr (drop l.e-index l.es))
    ≡ values_from (view_scope l.scope) (view_values l.initial.values.items) (map view_expr l.es)
