use Rattle.std.proofs.Common.{◌≡◌, drop}
use Rattle.spec_ast.specs.View.{view_lines}
use Rattle.spec_scope.specs.View.{view_scope}
use Rattle.spec_lines.specs.Behind.{fore_from}
use Rattle.spec_lines.specs.View.{view_fore, AreHeads}
use Rattle.spec_lines.proofs.fore.fore_of.Given as goal

abbrev pub invariant-each : goal.invariant-each
invariant-each l = record {
  fore : fore_from (view_fore l.fore) (view_lines (drop l.line-index l.lines)) ≡ fore_from (record { scope = view_scope l.fn.scope; classes = 0 }) (view_lines l.lines);
  heads : AreHeads l.fore;
}
