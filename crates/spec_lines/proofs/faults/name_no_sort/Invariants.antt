use Rattle.std.proofs.Common.{◌≡◌, drop}
use Rattle.std.specs.List.{list_any}
use Rattle.spec_scope.specs.View.{view_scope}
use Rattle.spec_lines.specs.Faults.{names_no_sort}
use Rattle.spec_lines.proofs.faults.name_no_sort.Given as goal

abbrev pub invariant-each : goal.invariant-each
invariant-each l = list_any (names_no_sort (view_scope l.scope)) (drop l.sort-index l.sorts) ≡ list_any (names_no_sort (view_scope l.scope)) l.sorts
