use Rattle.std.proofs.Common.{◌≡◌, map, drop}
use Rattle.std.specs.List.{list_all}
use Rattle.spec_tree.specs.View.{view_field}
use Rattle.spec_check.specs.Within.{has_sort}
use Rattle.spec_check.proofs.limits.have_sorts.Given as goal

abbrev pub invariant-each : goal.invariant-each
invariant-each l = list_all has_sort (map view_field (drop l.field-index l.fields)) ≡ list_all has_sort (map view_field l.fields)
