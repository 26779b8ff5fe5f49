use Rattle.std.proofs.Common.{◌≡◌, ◌++◌, map, drop}
use Rattle.std.specs.Prelude.{flat_map}
use Rattle.ir_ast.specs.ProgramView.{view_block}
use Rattle.ir_type.specs.Rows.{callees}
use Rattle.spec_kernel.specs.Firsts.{texts}
use Rattle.spec_kernel.proofs.calls.calls_of.Given as goal

abbrev pub invariant-loop-block : goal.invariant-loop-block
invariant-loop-block l =
    texts l.calls.items ++ flat_map (λ i. callees i.act) (flat_map (λ b. b.instrs) (map view_block (drop l.block-index l.blocks)))
    ≡ flat_map (λ i. callees i.act) (flat_map (λ b. b.instrs) (map view_block l.blocks))
