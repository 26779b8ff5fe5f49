use Rattle.spec_read.proofs.TextLaws.{fails_or_spells}
use Rattle.spec_read.proofs.laws.failing_texts_spell_nothing.Goals as goal

pub returns : goal.returns
returns c = fails_or_spells
