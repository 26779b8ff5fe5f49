use Rattle.ir_layout.proofs.SizeLaws.{multiple, aligned}
use Rattle.ir_layout.proofs.laws.sizes_are_multiples_of_alignments.Goals as goal

pub returns-clause-size : goal.returns-clause-size
returns-clause-size c = multiple

pub returns-clause-field : goal.returns-clause-field
returns-clause-field c = λ ts k l. aligned 0 ts k l
