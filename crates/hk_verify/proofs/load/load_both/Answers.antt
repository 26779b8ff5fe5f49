use Rattle.std.proofs.Common.{sym, subst}
use Rattle.std.proofs.lemmas.Result.{err_from_is_err_and}
use Rattle.hk_verify.specs.Inputs.{IsLoadingFault, asked}
use Rattle.hk_verify.proofs.Loading.{first_fails, second_fails}
use Rattle.hk_verify.proofs.load.load_both.Goals as goal

pub returns-in_err-first-clause-fault : goal.returns-in_err-first-clause-fault
returns-in_err-first-clause-fault g c =
    let p = err_from_is_err_and c.from_residual.result c.from_residual.ensures.1 in
    rw p.1 (subst (IsLoadingFault _ _) (sym p.2) (first_fails _ _ _ _ c.in_err-first.ensures.fault))

pub returns-in_err-second-clause-fault : goal.returns-in_err-second-clause-fault
returns-in_err-second-clause-fault g c =
    let p = err_from_is_err_and c.from_residual-in_err-second.result c.from_residual-in_err-second.ensures.1 in
    rw p.1 (subst (IsLoadingFault _ _) (sym p.2) (second_fails _ _ _ _ _ (asked 1 c.args.first.now.name.now c.args.first.now.limit) (asked 2 c.args.second.now.name.now c.args.second.now.limit) c.in_ok-first.first.items _
    c.load.ensures.held c.in_ok-first.ensures.counts c.in_ok-first.ensures.loaded c.in_err-second.ensures.fault))
