use Rattle.std.proofs.Common.{◌≡◌, ◌+◌, ◌++◌, drop, map}
use Rattle.hk_term.specs.Tables.{entry_at}
use Rattle.spec_tree.specs.Sorted.{sort_of}
use Rattle.spec_tree.specs.View.{view_field}
use Rattle.hk_symspec.specs.States.{free_state}
use Rattle.hk_oblig.proofs.cases.state_from.Given as goal

abbrev pub invariant-each : goal.invariant-each
invariant-each l = record {
  array : l.array ≡ l.first + l.field-index;
  state : l.state.items ++ free_state l.array (map sort_of (map view_field (drop l.field-index l.fields))) (entry_at l.arrays) ≡ free_state l.first (map sort_of (map view_field l.fields)) (entry_at l.arrays);
}
