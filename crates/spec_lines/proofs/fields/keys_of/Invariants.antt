use Rattle.std.proofs.Common.{◌≡◌, ◌++◌, map, drop}
use Rattle.spec_tree.specs.View.{view_key}
use Rattle.spec_lines.proofs.fields.keys_of.Given as goal

abbrev pub invariant-each : goal.invariant-each
invariant-each l = map view_key l.items.items ++ map view_key (drop l.key-index l.keys) ≡ map view_key l.keys
