use Rattle.std.proofs.Common.{◌≡◌, map, drop}
use Rattle.std.specs.List.{list_all}
use Rattle.spec_kernel.specs.Widths.{is_value_width}
use Rattle.spec_kernel.specs.Seen.{view_value}
use Rattle.spec_kernel.proofs.rows.are_value_widths.Given as goal

abbrev pub invariant-each : goal.invariant-each
invariant-each l = list_all is_value_width (map view_value (drop l.value-index l.values)) ≡ list_all is_value_width (map view_value l.values)
