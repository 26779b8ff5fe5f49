use Rattle.std.proofs.Common.{◌≡◌, ◌++◌, drop}
use Rattle.ir_resolve.specs.Locals.{block_flags}
use Rattle.ir_resolve.proofs.local.add_blocks.Given as goal

abbrev pub invariant-each : goal.invariant-each
invariant-each l = l.slots.items ++ block_flags (drop l.block-index l.blocks) ≡ l.initial.slots.items ++ block_flags l.blocks
