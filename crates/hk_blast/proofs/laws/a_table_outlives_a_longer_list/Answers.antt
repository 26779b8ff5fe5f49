use Rattle.hk_blast.proofs.LongerLists.{blasted-longer, places-longer, lengthens-longer, needs-longer}
use Rattle.hk_blast.proofs.laws.a_table_outlives_a_longer_list.Goals as goal

pub returns : goal.returns
returns c = record { blasted = blasted-longer; places = places-longer; lengthens = lengthens-longer; needs = needs-longer }
