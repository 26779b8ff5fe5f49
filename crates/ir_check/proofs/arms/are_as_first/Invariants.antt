use Rattle.std.proofs.Common.{take}
use Rattle.std.specs.List.{All}
use Rattle.ir_ast.specs.View.{view_type}
use Rattle.ir_ast.specs.ProgramView.{view_entries, view_type_entry, view_arms}
use Rattle.ir_whole.specs.Numbers.{IsFor}
use Rattle.ir_check.specs.Arms.{IsAsFirst}
use Rattle.ir_check.proofs.arms.are_as_first.Given as goal

abbrev pub invariant-loop-arm : goal.invariant-loop-arm
invariant-loop-arm l = record {
  own : IsFor (view_entries view_type_entry l.types) l.numbers;
  all : All (IsAsFirst (view_entries view_type_entry l.types) (view_type l.over) l.index l.places (view_arms l.arms)) (take l.arm-index (view_arms l.arms));
}
