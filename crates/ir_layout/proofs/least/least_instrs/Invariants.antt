use Rattle.std.proofs.Common.{◌≡◌, drop, map}
use Rattle.ir_ast.specs.ProgramView.{view_instr}
use Rattle.ir_layout.specs.Facts.{look_in}
use Rattle.ir_layout.specs.Least.{least_instrs}
use Rattle.ir_layout.proofs.least.least_instrs.Given as goal

abbrev pub invariant-loop-instr : goal.invariant-loop-instr
invariant-loop-instr l =
    least_instrs (look_in l.types l.facts) l.found (map view_instr (drop l.instr-index l.items))
    ≡ least_instrs (look_in l.types l.facts) l.fn.least (map view_instr l.instrs.items.items)
