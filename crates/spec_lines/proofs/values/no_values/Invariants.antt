use Rattle.std.proofs.Common.{◌≡◌, ◌++◌, map, drop}
use Rattle.spec_lines.specs.MadeView.{view_values, no_value}
use Rattle.spec_lines.proofs.values.no_values.Given as goal

abbrev pub invariant-each : goal.invariant-each
invariant-each l = view_values l.values.items ++ map no_value (drop l.index l.heads) ≡ map no_value l.heads
