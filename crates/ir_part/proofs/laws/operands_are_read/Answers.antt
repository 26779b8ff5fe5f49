use Rattle.ir_part.proofs.OperandLaws.{operand_sound, operand_complete, typed_sound, typed_complete}
use Rattle.ir_part.proofs.laws.operands_are_read.Goals as goal

pub returns : goal.returns
returns c = (λ over. record { sound = operand_sound over; complete = operand_complete over }, record { sound = typed_sound; complete = typed_complete })
