use Rattle.std.proofs.Common.{◌≡◌, drop, map}
use Rattle.ir_ast.specs.ProgramView.{view_block, view_blocks}
use Rattle.ir_layout.specs.Facts.{look_in}
use Rattle.ir_layout.specs.Least.{least_blocks}
use Rattle.ir_layout.proofs.least.least_blocks.Given as goal

abbrev pub invariant-loop-block : goal.invariant-loop-block
invariant-loop-block l =
    least_blocks (look_in l.types l.facts) l.found (map view_block (drop l.block-index l.items))
    ≡ least_blocks (look_in l.types l.facts) l.fn.least (view_blocks l.blocks)
