use Rattle.ir_lex.proofs.SlotLaw.{spells_one_slot}
use Rattle.ir_lex.proofs.laws.slots_are_spelled_apart.Goals as goal

pub returns : goal.returns
returns c = spells_one_slot
