use Rattle.std.proofs.Common.{◌≡◌, ◌++◌, map, drop}
use Rattle.std.specs.Prelude.{flat_map}
use Rattle.ir_ast.specs.ProgramView.{view_instr}
use Rattle.ir_type.specs.Rows.{targets}
use Rattle.ir_check.specs.Graphs.{places_among}
use Rattle.hk_unroll.proofs.edges.targets_of_block.Given as goal

abbrev pub invariant-loop-instr : goal.invariant-loop-instr
invariant-loop-instr l =
    l.places.items ++ places_among l.index (flat_map (λ i. targets i.act) (map view_instr (drop l.instr-index l.instrs)))
    ≡ places_among l.index (flat_map (λ i. targets i.act) (map view_instr l.instrs))
