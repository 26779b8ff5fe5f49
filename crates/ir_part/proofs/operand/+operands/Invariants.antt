use Rattle.std.proofs.Common.{◌+◌, ◌*◌}
use Rattle.ir_part.proofs.operand.+operands.Given as goal

-- a base has fewer forms that stand in one another; within one form each reader calls the next
abbrev pub decreases-operand_within : goal.decreases-operand_within
decreases-operand_within l = 8 * l.nested + 4

abbrev pub decreases-value_word : goal.decreases-value_word
decreases-value_word l = 8 * l.nested + 3

abbrev pub decreases-address_at : goal.decreases-address_at
decreases-address_at l = 8 * l.nested + 2

abbrev pub decreases-form_at : goal.decreases-form_at
decreases-form_at l = 8 * l.nested + 1

abbrev pub decreases-base_within : goal.decreases-base_within
decreases-base_within l = 8 * l.nested
