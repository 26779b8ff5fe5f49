use Rattle.std.proofs.Common.{◌≡◌, drop}
use Rattle.ir_machine.specs.Step.{arm_from}
use Rattle.hk_symexec.proofs.phis.arm_from.Given as goal

abbrev pub invariant-loop-arm : goal.invariant-loop-arm
invariant-loop-arm l = arm_from l.fn.from (drop l.arm-index l.arms) ≡ arm_from l.fn.from l.fn.arms
