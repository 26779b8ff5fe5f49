use Rattle.std.proofs.Common.{◌≡◌, ◌-◌}
use Rattle.ir_machine.specs.Step.{run}
use Rattle.ir_machine.proofs.steps.run.Given as goal

abbrev pub invariant-loop : goal.invariant-loop
invariant-loop l = run l.program (l.fn.steps - l.counter) l.machine ≡ run l.program l.fn.steps l.fn.machine
