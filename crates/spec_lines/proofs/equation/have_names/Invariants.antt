use Rattle.std.proofs.Common.{◌≡◌, map, drop}
use Rattle.std.specs.List.{list_any, list_all}
use Rattle.spec_ast.specs.View.{view_expr}
use Rattle.spec_lines.specs.Equations.{is_name}
use Rattle.spec_lines.proofs.equation.have_names.Given as goal

abbrev pub invariant-each : goal.invariant-each
invariant-each l =
    list_all (λ x. list_any (is_name x) (map view_expr l.es)) (drop l.name-index l.names) ≡ list_all (λ x. list_any (is_name x) (map view_expr l.es)) l.names
