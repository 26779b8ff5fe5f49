use Rattle.std.proofs.Common.{◌≡◌, map, drop}
use Rattle.std.specs.List.{list_all}
use Rattle.spec_tree.specs.View.{view_key}
use Rattle.spec_check.specs.Within.{is_index_sort}
use Rattle.spec_check.proofs.limits.are_index_sorts.Given as goal

abbrev pub invariant-each : goal.invariant-each
invariant-each l = list_all is_index_sort (map view_key (drop l.key-index l.keys)) ≡ list_all is_index_sort (map view_key l.keys)
