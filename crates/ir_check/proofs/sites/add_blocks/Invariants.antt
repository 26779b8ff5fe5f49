use Rattle.std.proofs.Common.{◌≡◌, ◌++◌, map, drop}
use Rattle.ir_ast.specs.ProgramView.{view_block}
use Rattle.ir_check.specs.Sites.{sites_among}
use Rattle.ir_check.proofs.sites.add_blocks.Given as goal

abbrev pub invariant-loop-at : goal.invariant-loop-at
invariant-loop-at l = l.sites ++ sites_among l.at (map view_block (drop l.at l.blocks)) ≡ l.initial.sites ++ sites_among 0 (map view_block l.blocks)
