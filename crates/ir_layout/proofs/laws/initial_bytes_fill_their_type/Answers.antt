use Rattle.ir_layout.proofs.InitialLaws.{init_long}
use Rattle.ir_layout.proofs.laws.initial_bytes_fill_their_type.Goals as goal

pub returns : goal.returns
returns c = init_long
