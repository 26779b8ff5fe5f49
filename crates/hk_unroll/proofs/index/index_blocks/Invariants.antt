use Rattle.std.proofs.Common.{◌≡◌, ◌++◌, map, drop}
use Rattle.hk_unroll.proofs.index.index_blocks.Given as goal

abbrev pub invariant-loop-block : goal.invariant-loop-block
invariant-loop-block l = l.index ++ map (λ b. b.name) (drop l.block-index l.blocks) ≡ map (λ b. b.name) l.blocks
