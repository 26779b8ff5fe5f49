use Rattle.hk_inst.proofs.Whole.{exact}
use Rattle.hk_inst.proofs.laws.a_question_is_exact.Goals as goal

pub returns : goal.returns
returns c = exact
