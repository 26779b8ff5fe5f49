use Rattle.std.proofs.Common.{◌≡◌, ◌*◌, drop, map}
use Rattle.spec_tree.specs.Sorted.{product, key_sizes}
use Rattle.spec_tree.specs.View.{view_key}
use Rattle.hk_oblig.proofs.numbers.entries_in.Given as goal

abbrev pub invariant-each : goal.invariant-each
invariant-each l = l.all * product (drop l.k (key_sizes (map view_key l.keys))) ≡ product (key_sizes (map view_key l.keys))
