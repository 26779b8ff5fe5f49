use Rattle.ir_resolve.proofs.operands.+inputs.Given as goal

abbrev pub decreases-input_of : goal.decreases-input_of
decreases-input_of l = goal.size-input_of l

abbrev pub decreases-form_input : goal.decreases-form_input
decreases-form_input l = goal.size-form_input l
