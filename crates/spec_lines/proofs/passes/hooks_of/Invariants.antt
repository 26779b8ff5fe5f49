use Rattle.std.proofs.Common.{◌≡◌, drop}
use Rattle.spec_ast.specs.View.{view_lines}
use Rattle.spec_scope.specs.Words.{words}
use Rattle.spec_lines.specs.Whole as definition
use Rattle.spec_lines.proofs.passes.hooks_of.Given as goal

abbrev pub invariant-each : goal.invariant-each
invariant-each l = definition.hooks_from (words l.hooks.items) (view_lines (drop l.line-index l.lines)) ≡ definition.hooks_of (view_lines l.lines)
