use Rattle.spec_read.proofs.TextAnswers.{spells_or_fails}
use Rattle.spec_read.proofs.laws.texts_spell_or_fail.Goals as goal

pub returns : goal.returns
returns c = spells_or_fails
