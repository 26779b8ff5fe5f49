use Rattle.std.proofs.Common.{◌≡◌, ◌++◌, map, drop}
use Rattle.std.specs.Prelude.{flat_map}
use Rattle.ir_ast.specs.ProgramView.{view_instr}
use Rattle.ir_ast.specs.Table.{names_of}
use Rattle.ir_type.specs.Rows.{callees}
use Rattle.ir_check.specs.Graphs.{places_among}
use Rattle.ir_check.proofs.calls.add_callees.Given as goal

abbrev pub invariant-loop-instr : goal.invariant-loop-instr
invariant-loop-instr l =
    l.places.items ++ places_among (names_of l.functions) (flat_map (λ i. callees i.act) (map view_instr (drop l.instr-index l.instrs)))
    ≡ l.initial.places.items ++ places_among (names_of l.functions) (flat_map (λ i. callees i.act) (map view_instr l.instrs))
