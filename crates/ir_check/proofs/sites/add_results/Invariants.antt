use Rattle.std.proofs.Common.{◌≡◌, ◌++◌, map, drop}
use Rattle.ir_ast.specs.ProgramView.{view_instr}
use Rattle.ir_check.specs.Sites.{sites_in}
use Rattle.ir_check.proofs.sites.add_results.Given as goal

abbrev pub invariant-loop-place : goal.invariant-loop-place
invariant-loop-place l = l.sites ++ sites_in l.block l.place (map view_instr (drop l.place l.instrs)) ≡ l.initial.sites ++ sites_in l.block 0 (map view_instr l.instrs)
