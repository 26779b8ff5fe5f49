use Rattle.std.proofs.Common.{sym, subst}
use Rattle.std.specs.List.{All}
use Rattle.hk_cnf.specs.Literal.{IsWithin}
use Rattle.hk_lrat.proofs.Accept.{accepted-within}
use Rattle.hk_lrat.proofs.checker.Checker.accept_add.Goals as goal

pub push-requires-clause-within : goal.push-requires-clause-within
push-requires-clause-within c =
    subst (λ s. All (IsWithin s.state.vars) c.args.clause.now) (sym c.addition_reason.ensures.same)
    (accepted-within c.args.self.now.state c.args.id c.args.clause.now c.args.hints.now c.addition_reason.ensures.few c.in-None.ensures.reason)
