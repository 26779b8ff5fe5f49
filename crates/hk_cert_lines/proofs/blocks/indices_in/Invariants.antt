use Rattle.std.proofs.Common.{◌≡◌, true, map, drop}
use Rattle.spec_tree.specs.View.{view_key}
use Rattle.hk_cert_lines.specs.Blocks.{indices_from}
use Rattle.hk_cert_lines.proofs.blocks.indices_in.Given as goal

abbrev pub invariant-loop-key : goal.invariant-loop-key
invariant-loop-key l = indices_from l.indices.items l.first (map view_key (drop l._key-index l.keys)) l.rest ≡ indices_from l.initial.indices.items true (map view_key l.keys) l.line
