use Rattle.std.proofs.Common.{◌≡◌, drop}
use Rattle.std.specs.Prelude.{Some}
use Rattle.ir_machine.specs.Values.{moved_all}
use Rattle.ir_machine.proofs.inputs.moved_all.Given as goal

abbrev pub invariant-loop-by : goal.invariant-loop-by
invariant-loop-by l = moved_all l.memory l.registers (Some l.value) (drop l.by-index l.moves) ≡ moved_all l.memory l.registers (Some l.fn.base) l.moves
