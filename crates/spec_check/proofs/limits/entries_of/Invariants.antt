use Rattle.std.proofs.Common.{◌≡◌, map, drop}
use Rattle.spec_tree.specs.View.{view_field}
use Rattle.spec_check.specs.Within.{entries_from}
use Rattle.spec_check.proofs.limits.entries_of.Given as goal

abbrev pub invariant-each : goal.invariant-each
invariant-each l = entries_from l.entries (map view_field (drop l.field-index l.fields)) ≡ entries_from 0 (map view_field l.fields)
