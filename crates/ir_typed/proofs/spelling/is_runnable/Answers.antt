use Rattle.ir_typed.proofs.SpelledLaws.{runnable}
use Rattle.ir_typed.proofs.spelling.is_runnable.Goals as goal

pub returns : goal.returns
returns c =
    runnable c.args.kernel.now c.checked-checked.result.now c.module.result.now c.are_spelled.result c.checked-checked.ensures.checked c.module.ensures.kernel c.checked-checked.ensures.facts c.checked-checked.ensures.distinct c.are_spelled.ensures
