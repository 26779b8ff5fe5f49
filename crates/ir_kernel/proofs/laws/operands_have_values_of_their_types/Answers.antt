use Rattle.ir_kernel.proofs.OperandTypes.{operand_holds}
use Rattle.ir_kernel.proofs.laws.operands_have_values_of_their_types.Goals as goal

pub returns : goal.returns
returns c = operand_holds
