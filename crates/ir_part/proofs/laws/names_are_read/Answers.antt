use Rattle.ir_part.proofs.Fronts.{local_sound, local_complete, global_sound, global_complete, label_sound, label_complete}
use Rattle.ir_part.proofs.laws.names_are_read.Goals as goal

pub returns : goal.returns
returns c = (record { sound = local_sound; complete = local_complete }, record { sound = global_sound; complete = global_complete }, record { sound = label_sound; complete = label_complete })
