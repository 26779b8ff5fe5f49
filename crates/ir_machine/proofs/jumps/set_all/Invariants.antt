use Rattle.std.proofs.Common.{◌≡◌, drop}
use Rattle.ir_machine.specs.Step.{set_all}
use Rattle.ir_machine.proofs.jumps.set_all.Given as goal

abbrev pub invariant-loop-register : goal.invariant-loop-register
invariant-loop-register l = set_all (drop l.register-index l.found) l.all ≡ set_all l.fn.found l.fn.registers
