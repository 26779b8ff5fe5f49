use Rattle.std.proofs.Common.{◌≡◌, drop}
use Rattle.ir_typed.specs.SpelledCode.{are_blocks_spelled}
use Rattle.ir_typed.proofs.spelling.are_blocks_spelled.Given as goal

abbrev pub invariant-each : goal.invariant-each
invariant-each l = are_blocks_spelled (drop l.block-index l.blocks) ≡ are_blocks_spelled l.blocks
