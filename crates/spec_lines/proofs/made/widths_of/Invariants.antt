use Rattle.std.proofs.Common.{◌≡◌, ◌++◌, map, drop}
use Rattle.spec_kernel.specs.Seen.{view_value}
use Rattle.spec_lines.specs.Behind.{width_of_type}
use Rattle.spec_lines.proofs.made.widths_of.Given as goal

abbrev pub invariant-each : goal.invariant-each
invariant-each l =
    l.widths.items ++ map width_of_type (map view_value (drop l.value-index l.types)) ≡ map width_of_type (map view_value l.types)
