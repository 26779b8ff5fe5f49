use Rattle.std.proofs.Common.{◌≡◌, ◌++◌, map}
use Rattle.std.specs.List.{range_with_len}
use Rattle.hk_cert_lines.specs.Blocks.{hex_byte_at}
use Rattle.hk_cert_lines.proofs.blocks.push_hex.Given as goal

abbrev pub invariant-loop-k : goal.invariant-loop-k
invariant-loop-k l = l.bytes.items ≡ l.initial.bytes.items ++ map (hex_byte_at l.hex) (range_with_len 0 l.k)
