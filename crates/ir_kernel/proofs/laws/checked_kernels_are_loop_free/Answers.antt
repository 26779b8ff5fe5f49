use Rattle.ir_kernel.specs.Orders.{length_at}
use Rattle.ir_kernel.proofs.CodeOrders.{loop_free}
use Rattle.ir_kernel.proofs.Links.{code_lengths}
use Rattle.ir_kernel.proofs.laws.checked_kernels_are_loop_free.Goals as goal

pub returns-clause-loop_free : goal.returns-clause-loop_free
returns-clause-loop_free c = λ m order length_of checked distinct are lengths. loop_free m checked order are (length_at m length_of) (code_lengths m length_of distinct lengths)

pub returns-clause-lengths : goal.returns-clause-lengths
returns-clause-lengths c = code_lengths
