use Rattle.std.proofs.Common.{◌≡◌, ◌++◌, ◌-◌, drop}
use Rattle.ir_machine.specs.Step.{argument_registers, unset}
use Rattle.ir_machine.proofs.calls.first_registers.Given as goal

abbrev pub invariant-loop-input : goal.invariant-loop-input
invariant-loop-input l =
    l.first.items ++ argument_registers l.memory l.registers (drop l.input-index l.arguments) ≡ argument_registers l.memory l.registers l.fn.arguments

abbrev pub invariant-loop : goal.invariant-loop
invariant-loop l =
    l.first.items ++ unset (l.fn.unset - l.counter) ≡ argument_registers l.memory l.registers l.fn.arguments ++ unset l.fn.unset
