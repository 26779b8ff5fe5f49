use Rattle.ir_part.proofs.Fronts.{count_sound, count_complete, number_sound, number_complete, width_sound, width_complete}
use Rattle.ir_part.proofs.laws.numbers_are_read.Goals as goal

pub returns : goal.returns
returns c = (record { sound = count_sound; complete = count_complete }, record { sound = number_sound; complete = number_complete }, record { sound = width_sound; complete = width_complete })
