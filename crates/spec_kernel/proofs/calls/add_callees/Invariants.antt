use Rattle.std.proofs.Common.{◌≡◌, ◌++◌, map, drop}
use Rattle.std.specs.Prelude.{flat_map}
use Rattle.ir_ast.specs.ProgramView.{view_instr}
use Rattle.ir_type.specs.Rows.{callees}
use Rattle.spec_kernel.specs.Firsts.{texts}
use Rattle.spec_kernel.proofs.calls.add_callees.Given as goal

abbrev pub invariant-loop-instr : goal.invariant-loop-instr
invariant-loop-instr l =
    texts l.calls.items ++ flat_map (λ i. callees i.act) (map view_instr (drop l.instr-index l.instrs))
    ≡ texts l.initial.calls.items ++ flat_map (λ i. callees i.act) (map view_instr l.instrs)
