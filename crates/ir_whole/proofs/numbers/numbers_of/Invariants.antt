use Rattle.ir_ast.specs.ProgramView.{view_entries, view_type_entry}
use Rattle.ir_whole.specs.Numbers.{IsFilled}
use Rattle.ir_whole.proofs.numbers.numbers_of.Given as goal

abbrev pub invariant-loop-node : goal.invariant-loop-node
invariant-loop-node l = IsFilled (view_entries view_type_entry l.types) l.node-items l.node-index l.heads l.named.items
