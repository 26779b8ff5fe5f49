use Rattle.std.proofs.Common.{◌≡◌, [], map, drop}
use Rattle.spec_tree.specs.View.{view_key}
use Rattle.spec_scope.specs.View.{view_scope}
use Rattle.spec_lines.specs.Sorts.{keys_from}
use Rattle.spec_lines.proofs.sorts.keys_for.Given as goal

abbrev pub invariant-each : goal.invariant-each
invariant-each l =
    keys_from (view_scope l.scope) (map view_key l.keys.items) (drop l.sort-index l.sorts) ≡ keys_from (view_scope l.scope) [] l.sorts
