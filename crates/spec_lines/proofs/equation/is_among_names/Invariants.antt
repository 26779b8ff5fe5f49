use Rattle.std.proofs.Common.{◌≡◌, drop}
use Rattle.spec_scope.specs.Scope.{is_among}
use Rattle.spec_lines.proofs.equation.is_among_names.Given as goal

abbrev pub invariant-each : goal.invariant-each
invariant-each l =
    is_among l.name (drop l.other-index l.names) ≡ is_among l.name l.names
