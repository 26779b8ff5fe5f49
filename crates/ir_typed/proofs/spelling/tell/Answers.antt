use Rattle.ir_typed.proofs.SpelledLaws.{told}
use Rattle.ir_typed.proofs.spelling.tell.Goals as goal

pub returns : goal.returns
returns c = told c.args.kernel.now c.are_functions_spelled.result c.are_functions_spelled.ensures
