use Rattle.spec_sound.proofs.Strays.{one_answer}
use Rattle.spec_sound.proofs.laws.answers_are_one.Goals as goal

pub returns : goal.returns
returns c = one_answer
