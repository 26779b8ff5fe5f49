use Rattle.std.proofs.Common.{[], ◌∷◌, ◌++◌, ap, sym, ◌∙◌}
use Rattle.hk_cert.proofs.Taking.{zeros_more}
use Rattle.hk_cert.proofs.states.zeros.Goals as goal

pub loop-k-preserved : goal.loop-k-preserved
loop-k-preserved c = c.in_ok-push.ensures.items ∙ ap (λ l. l ++ 0 ∷ []) c.loop-k.invariant ∙ sym (zeros_more c.loop-k._k)
