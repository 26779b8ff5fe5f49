use Rattle.hk_blast.proofs.Bottoms.{is_false}
use Rattle.hk_blast.proofs.operation.binary_word.Goals as goal

pub shift_left-requires-clause-bottom_is : goal.shift_left-requires-clause-bottom_is
shift_left-requires-clause-bottom_is c = λ v. is_false c.args.gates.now c.args.truth c.negated.result v c.requires.truth.literal (c.requires.truth_is v) c.negated.ensures.value

pub shift_right-requires-clause-bottom_is : goal.shift_right-requires-clause-bottom_is
shift_right-requires-clause-bottom_is c = λ v. is_false c.args.gates.now c.args.truth c.negated-in-Lshr.result v c.requires.truth.literal (c.requires.truth_is v) c.negated-in-Lshr.ensures.value
