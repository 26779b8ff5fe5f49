-- How runs end, as a caller sees it.
use Rattle.std.specs.Prelude.{◌≡◌, ◌≢◌, ℕ, Some, None, List}
use Rattle.ir_ast.specs.Program.{ModuleView}
use Rattle.ir_value.specs.declared.value.Value.TheVariants.{Number}
use Rattle.ir_machine.specs.declared.state.End.{End}
use Rattle.ir_machine.specs.declared.state.End.TheVariants.{Returned, Stuck, Lost, Unfinished}
use Rattle.ir_kernel.specs.declared.ends.RunEnd.{RunEnd}
use Rattle.ir_kernel.specs.declared.ends.RunEnd.TheVariants as end
use Rattle.ir_kernel.specs.Runs.{IsRun}

-- a returned value is a number, since the function's result is an integer
abbrev pub seen : End → RunEnd
seen (Returned None memory) = end.Returned None memory
seen (Returned (Some (Number n)) memory) = end.Returned (Some n) memory
seen (Returned (Some v) memory) = end.Lost
seen (Stuck reason line) = end.Stuck reason line
seen Lost = end.Lost
seen Unfinished = end.Lost

-- the run of the function at the place from these arguments and this memory ends so, within its expanded length
pub record IsEndOfRun (m : ModuleView) (function : ℕ) (arguments : List ℕ) (memory : List (List ℕ)) (end : RunEnd) : Type 0 where
  pub whole : End
  pub run : IsRun m function arguments memory whole
  pub finished : whole ≢ Unfinished
  pub is : end ≡ seen whole
