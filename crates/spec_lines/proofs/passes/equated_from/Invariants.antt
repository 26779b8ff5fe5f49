use Rattle.std.proofs.Common.{◌≡◌, drop}
use Rattle.spec_ast.specs.View.{view_lines}
use Rattle.spec_lines.specs.Whole as definition
use Rattle.spec_lines.specs.View.{view_here}
use Rattle.spec_lines.proofs.passes.equated_from.Given as goal

abbrev pub invariant-each : goal.invariant-each
invariant-each l =
    definition.equated_from (view_here l.here) (view_lines (drop l.line-index l.lines)) ≡ definition.equated_from (view_here l.initial.here) (view_lines l.lines)
