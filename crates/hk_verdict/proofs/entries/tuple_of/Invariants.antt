use Rattle.std.proofs.Common.{◌≡◌, ◌<◌, ◌++◌, drop, length, map}
use Rattle.spec_tree.specs.Sorted.{product, key_sizes}
use Rattle.spec_tree.specs.Value.{tuple_at}
use Rattle.spec_tree.specs.View.{view_key}
use Rattle.hk_verdict.proofs.entries.tuple_of.Given as goal

-- what is left ends as the whole does
abbrev pub invariant-each : goal.invariant-each
invariant-each l = record {
  counted : length l.tuple.items ≡ l.key-index;
  stride : l.stride ≡ product (drop l.key-index (key_sizes (map view_key l.keys)));
  within : l.rest < l.stride;
  left : l.tuple.items ++ tuple_at (drop l.key-index (key_sizes (map view_key l.keys))) l.rest ≡ tuple_at (key_sizes (map view_key l.keys)) l.k;
}
