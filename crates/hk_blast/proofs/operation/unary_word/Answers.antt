use Rattle.std.proofs.lemmas.Result.{IfOk-weaker}
use Rattle.hk_blast.proofs.operation.unary_word.Goals as goal

pub returns-in-Not-clause-within : goal.returns-in-Not-clause-within
returns-in-Not-clause-within c = IfOk-weaker c.complement.result _ _ (λ w h. h c.args.gates.now.vars c.requires.word) c.complement.ensures.within
