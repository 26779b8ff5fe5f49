use Rattle.ir_part.proofs.AlignLaw.{align_sound, align_complete}
use Rattle.ir_part.proofs.laws.aligns_are_read.Goals as goal

pub returns : goal.returns
returns c = (align_sound, align_complete)
