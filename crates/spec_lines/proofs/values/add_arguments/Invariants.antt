use Rattle.std.proofs.Common.{◌≡◌, map, drop}
use Rattle.spec_ast.specs.View.{view_expr}
use Rattle.spec_lines.specs.Equations.{arguments_behind}
use Rattle.spec_lines.proofs.values.add_arguments.Given as goal

abbrev pub invariant-each : goal.invariant-each
invariant-each l = arguments_behind l.bound (map view_expr (drop l.e-index l.es)) ≡ arguments_behind l.initial.bound (map view_expr l.es)
