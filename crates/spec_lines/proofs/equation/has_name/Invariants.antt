use Rattle.std.proofs.Common.{◌≡◌, map, drop}
use Rattle.std.specs.List.{list_any}
use Rattle.spec_ast.specs.View.{view_expr}
use Rattle.spec_lines.specs.Equations.{is_name}
use Rattle.spec_lines.proofs.equation.has_name.Given as goal

abbrev pub invariant-each : goal.invariant-each
invariant-each l =
    list_any (is_name l.name) (map view_expr (drop l.e-index l.es)) ≡ list_any (is_name l.name) (map view_expr l.es)
