use Rattle.ir_lex.proofs.TypeLaws.{spells_one_type}
use Rattle.ir_lex.proofs.laws.types_are_spelled_apart.Goals as goal

pub returns : goal.returns
returns c = spells_one_type
