use Rattle.std.proofs.Common.{◌≡◌, map, drop}
use Rattle.spec_ast.specs.View.{view_expr}
use Rattle.spec_scope.specs.View.{view_scope}
use Rattle.spec_take.specs.Found.{view_findings}
use Rattle.spec_lines.specs.Lines.{either, found_among}
use Rattle.spec_lines.proofs.findings.among.Given as goal

abbrev pub invariant-each : goal.invariant-each
invariant-each l =
    either (view_findings l.found) (found_among (view_scope l.scope) (map view_expr (drop l.e-index l.es))) ≡ found_among (view_scope l.scope) (map view_expr l.es)
