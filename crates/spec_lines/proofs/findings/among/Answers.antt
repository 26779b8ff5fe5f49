use Rattle.spec_ast.specs.View.{view_expr}
use Rattle.spec_scope.specs.View.{view_scope}
use Rattle.spec_take.specs.Found.{view_findings}
use Rattle.std.proofs.Common.{map}
use Rattle.spec_lines.specs.Lines.{found_among}
use Rattle.spec_lines.proofs.Finding.{among_step}
use Rattle.spec_lines.proofs.findings.among.Goals as goal

pub each-preserved : goal.each-preserved
each-preserved c =
    let s = view_scope c.args.scope.now in
    among_step s c.args.es.now c.each.e-index c.e-item.result (view_findings c.each.found) (view_findings c.in_ok-here.here) (view_findings c.either-found.result)
    (found_among s (map view_expr c.args.es.now)) c.e-item.is c.each-test.true c.in_ok-here.ensures c.either-found.ensures c.each.invariant
