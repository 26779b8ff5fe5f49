use Rattle.ir_part.proofs.TypeLaws.{type_sound, type_complete, result_sound, result_complete}
use Rattle.ir_part.proofs.laws.types_are_read.Goals as goal

pub returns : goal.returns
returns c = (record { sound = type_sound; complete = type_complete }, record { sound = result_sound; complete = result_complete })
