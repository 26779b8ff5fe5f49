use Rattle.ir_ast.specs.ProgramView.{view_entries, view_type_entry}
use Rattle.ir_layout.specs.Offsets.{AreRooted}
use Rattle.ir_layout.proofs.fields.roots_of.Given as goal

abbrev pub invariant-loop-node : goal.invariant-loop-node
invariant-loop-node l = AreRooted (view_entries view_type_entry l.types) l.node-items l.node-index l.roots.items
