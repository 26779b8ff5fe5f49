use Rattle.std.proofs.Common.{◌≡◌, ◌++◌, drop, map}
use Rattle.spec_tree.specs.Sorted.{key_sizes}
use Rattle.spec_tree.specs.View.{view_key}
use Rattle.hk_cert_read.proofs.blocks.sizes_of.Given as goal

abbrev pub invariant-each : goal.invariant-each
invariant-each l = l.sizes.items ++ key_sizes (map view_key (drop l.key-index l.keys)) ≡ key_sizes (map view_key l.keys)
