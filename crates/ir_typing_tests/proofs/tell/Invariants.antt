use Rattle.ir_ast.specs.ProgramView.{view_entries, view_type_entry}
use Rattle.ir_whole.specs.Numbers.{IsFor}
use Rattle.ir_typing_tests.proofs.tell.Given as goal

abbrev pub invariant-rows : goal.invariant-rows
invariant-rows l = IsFor (view_entries view_type_entry l.types) l.numbers
