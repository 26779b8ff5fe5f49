use Rattle.std.proofs.Common.{◌≡◌, ◌<◌, ◌++◌, drop}
use Rattle.spec_tree.specs.Sorted.{product}
use Rattle.spec_tree.specs.Value.{tuple_at}
use Rattle.spec_value.proofs.tuples.push_tuple.Given as goal

-- what is left ends as the whole does
abbrev pub invariant-each : goal.invariant-each
invariant-each l = record {
  stride : l.stride ≡ product (drop l.size-index l.sizes);
  within : l.rest < l.stride;
  left : l.tuple.items ++ tuple_at (drop l.size-index l.sizes) l.rest ≡ l.initial.tuple.items ++ tuple_at l.sizes l.k;
}
