use Rattle.std.proofs.Common.{◌≡◌, map, drop}
use Rattle.std.specs.List.{list_any}
use Rattle.spec_kernel.specs.Handlers.{is_address}
use Rattle.spec_kernel.specs.Seen.{view_value}
use Rattle.spec_kernel.proofs.rows.have_address.Given as goal

abbrev pub invariant-each : goal.invariant-each
invariant-each l = list_any is_address (map view_value (drop l.value-index l.values)) ≡ list_any is_address (map view_value l.values)
