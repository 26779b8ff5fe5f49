use Rattle.hk_verify.proofs.NumberWords.{not_spelled, not_parsed}
use Rattle.hk_verify.proofs.words.number_of.Goals as goal

pub returns-else-spells-clause-none : goal.returns-else-spells-clause-none
returns-else-spells-clause-none c = not_spelled c.args.word.now c.parse.result c.in-Ok.number c.spells.result c.parse.ensures.value.0 c.in-Ok.is c.spells.ensures c.if-spells.false

pub returns-in-Err-clause-none : goal.returns-in-Err-clause-none
returns-in-Err-clause-none c = not_parsed c.args.word.now c.parse.result _ c.parse.ensures.value.0 c.in-Err.is
