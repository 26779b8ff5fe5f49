use Rattle.hk_blast.proofs.Bottoms.{is_false}
use Rattle.hk_blast.proofs.operation.signed_less_word.Goals as goal

pub signed_less-requires-clause-bottom_is : goal.signed_less-requires-clause-bottom_is
signed_less-requires-clause-bottom_is c = λ v. is_false c.args.gates.now c.args.truth c.negated.result v c.requires.truth.literal (c.requires.truth_is v) c.negated.ensures.value
