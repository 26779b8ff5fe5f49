use Rattle.std.proofs.Common.{◌≡◌, ◌++◌, map, drop}
use Rattle.std.specs.Prelude.{flat_map}
use Rattle.ir_ast.specs.ProgramView.{view_block}
use Rattle.ir_ast.specs.Table.{names_of}
use Rattle.ir_type.specs.Rows.{callees}
use Rattle.ir_check.specs.Graphs.{places_among}
use Rattle.ir_check.proofs.calls.calls_of.Given as goal

abbrev pub invariant-loop-block : goal.invariant-loop-block
invariant-loop-block l =
    l.places.items ++ places_among (names_of l.functions) (flat_map (λ i. callees i.act) (flat_map (λ b. b.instrs) (map view_block (drop l.block-index l.blocks))))
    ≡ places_among (names_of l.functions) (flat_map (λ i. callees i.act) (flat_map (λ b. b.instrs) (map view_block l.blocks)))
