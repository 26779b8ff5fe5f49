use Rattle.std.proofs.Common.{◌≡◌, ◌++◌, take}
use Rattle.std.specs.List.{flat_map}
use Rattle.hk_rows.specs.Texts.{escaped}
use Rattle.hk_cert_lines.proofs.blocks.push_all_escaped.Given as goal

abbrev pub invariant-loop-byte : goal.invariant-loop-byte
invariant-loop-byte l = l.shown.items ≡ l.initial.shown.items ++ flat_map escaped (take l.byte-index l.name)
