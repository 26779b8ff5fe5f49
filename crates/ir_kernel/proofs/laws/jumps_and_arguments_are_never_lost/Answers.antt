use Rattle.ir_kernel.proofs.StepTypes.{branch_found, switch_found, arguments_do_pass}
use Rattle.ir_kernel.proofs.laws.jumps_and_arguments_are_never_lost.Goals as goal

pub returns-clause-branch : goal.returns-clause-branch
returns-clause-branch c = branch_found

pub returns-clause-switch : goal.returns-clause-switch
returns-clause-switch c = switch_found

pub returns-clause-arguments : goal.returns-clause-arguments
returns-clause-arguments c = arguments_do_pass
