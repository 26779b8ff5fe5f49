use Rattle.std.proofs.Common.{◌≡◌, ◌++◌, drop}
use Rattle.ir_check.specs.Sites.{parameter_sites}
use Rattle.ir_check.proofs.sites.add_parameters.Given as goal

abbrev pub invariant-loop-parameter : goal.invariant-loop-parameter
invariant-loop-parameter l =
    l.sites ++ parameter_sites (drop l.parameter-index l.parameters) ≡ l.initial.sites ++ parameter_sites l.parameters
