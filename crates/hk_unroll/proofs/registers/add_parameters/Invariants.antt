use Rattle.std.proofs.Common.{◌≡◌, ◌++◌, drop}
use Rattle.hk_unroll.specs.Registers.{parameters_of}
use Rattle.hk_unroll.proofs.registers.add_parameters.Given as goal

abbrev pub invariant-loop-parameter : goal.invariant-loop-parameter
invariant-loop-parameter l = l.registers ++ parameters_of (drop l.parameter-index l.parameters) ≡ l.initial.registers ++ parameters_of l.parameters
