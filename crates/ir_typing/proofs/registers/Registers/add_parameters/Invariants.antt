use Rattle.std.proofs.Common.{take}
use Rattle.ir_ast.specs.ProgramView.{view_entries, view_type_entry}
use Rattle.ir_whole.specs.Numbers.{types_of, IsFor}
use Rattle.ir_typing.specs.Kept.{of_parameters}
use Rattle.ir_typing.specs.Adding.{Adds}
use Rattle.ir_typing.proofs.registers.Registers.add_parameters.Given as goal

abbrev pub invariant-each : goal.invariant-each
invariant-each l = record {
  own : IsFor (view_entries view_type_entry l.types) l.numbers;
  adds : Adds (view_entries view_type_entry l.types) (types_of l.initial.numbers) (types_of l.numbers) (of_parameters (take l.parameter-index l.parameters)) l.initial.self l.self;
}
