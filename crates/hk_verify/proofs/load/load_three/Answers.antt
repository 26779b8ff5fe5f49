use Rattle.std.proofs.Common.{[], ◌∷◌}
use Rattle.hk_verify.specs.Inputs.{asked}
use Rattle.hk_verify.proofs.Loading.{still_fails, third_fails, if_err}
use Rattle.hk_verify.proofs.load.load_three.Goals as goal

pub returns-in-Err-clause-fault : goal.returns-in-Err-clause-fault
returns-in-Err-clause-fault g c = still_fails _ _ (asked 3 c.args.third.now.name.now c.args.third.now.limit) _ (if_err _ _ _ c.in-Err.is c.load_both.ensures.fault)

pub returns-in-Err-load-clause-fault : goal.returns-in-Err-load-clause-fault
returns-in-Err-load-clause-fault g c =
    third_fails _ _ _ _ _ (asked 1 c.args.first.now.name.now c.args.first.now.limit) (asked 2 c.args.second.now.name.now c.args.second.now.limit) (asked 3 c.args.third.now.name.now c.args.third.now.limit)
    (c.in-Ok.both.first.items ∷ c.in-Ok.both.second.items ∷ []) _
    c.load_both.ensures.held c.in-Ok.ensures.counts c.in-Ok.ensures.loaded c.in-Err-load.ensures.fault
