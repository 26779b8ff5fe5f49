use Rattle.std.proofs.Common.{◌≡◌, drop}
use Rattle.ir_machine.specs.Values.{arguments_pass}
use Rattle.ir_machine.proofs.computed.arguments_pass.Given as goal

abbrev pub invariant-loop-argument : goal.invariant-loop-argument
invariant-loop-argument l = arguments_pass l.memory l.registers (drop l.argument-index l.arguments) ≡ arguments_pass l.memory l.registers l.fn.arguments
