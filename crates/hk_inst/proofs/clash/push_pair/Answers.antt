use Rattle.std.proofs.Common.{sym, subst}
use Rattle.std.specs.List.{All}
use Rattle.std.specs.Prelude.{IfSome}
use Rattle.std.proofs.lemmas.List.Elements.{All-push}
use Rattle.hk_inst.specs.declared.instance.Instance.TheVariants.{Pair}
use Rattle.hk_inst.specs.Violations.{IsViolated}
use Rattle.hk_inst.proofs.clash.push_pair.Goals as goal

pub returns-in_ok-push-clause-found : goal.returns-in_ok-push-clause-found
returns-in_ok-push-clause-found c = λ q f r good all.
    subst (All (IsViolated q f r)) (sym c.in_ok-push.ensures.ok)
    (All-push (IsViolated q f r) c.args.found.now _ all (subst (λ o. IfSome o (λ j. IsViolated q f r (Pair j c.args.k))) c.in-Some.is good))
