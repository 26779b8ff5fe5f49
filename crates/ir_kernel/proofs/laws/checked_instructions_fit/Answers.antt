use Rattle.ir_kernel.proofs.InstrFacts.{instr_is_fit}
use Rattle.ir_kernel.proofs.laws.checked_instructions_fit.Goals as goal

pub returns : goal.returns
returns c = instr_is_fit
