use Rattle.ir_sound.proofs.Sizes.{run_keeps}
use Rattle.ir_sound.proofs.laws.memory_keeps_its_shape.Goals as goal

pub returns : goal.returns
returns c = run_keeps
