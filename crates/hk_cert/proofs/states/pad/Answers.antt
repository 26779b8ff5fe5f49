use Rattle.std.proofs.Common.{[], ◌∷◌, ◌++◌, ap, sym, ◌∙◌, append_assoc}
use Rattle.hk_cert.specs.States.{zeros}
use Rattle.hk_cert.proofs.Taking.{zeros_more}
use Rattle.hk_cert.proofs.states.pad.Goals as goal

pub loop-k-preserved : goal.loop-k-preserved
loop-k-preserved c =
    let first = c.args.bytes.now.items in
    let k = c.loop-k._k in
    c.in_ok-push.ensures.items ∙ ap (λ l. l ++ 0 ∷ []) c.loop-k.invariant ∙ append_assoc first (zeros k) (0 ∷ []) ∙ ap (λ l. first ++ l) (sym (zeros_more k))
