use Rattle.std.proofs.Common.{◌≡◌, drop, []}
use Rattle.ir_machine.specs.Step.{staged}
use Rattle.ir_machine.proofs.jumps.stage.Given as goal

abbrev pub invariant-loop-step : goal.invariant-loop-step
invariant-loop-step l = staged l.memory l.registers l.fn.from (drop l.step-index l.steps) l.found.items ≡ staged l.memory l.registers l.fn.from l.fn.steps []
