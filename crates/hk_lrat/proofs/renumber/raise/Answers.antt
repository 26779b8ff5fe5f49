use Rattle.std.proofs.Common.{sym, subst}
use Rattle.hk_lrat.specs.Log.{start}
use Rattle.hk_lrat.specs.Refutes.{AreAccepted}
use Rattle.hk_lrat.proofs.Raising.{log-raised}
use Rattle.hk_lrat.proofs.renumber.raise.Goals as goal

pub returns-clause-accepted : goal.returns-clause-accepted
returns-clause-accepted c = λ list longer e l a h. subst (AreAccepted (start longer)) (sym c.raise.ensures) (log-raised list longer c.args.log.now c.args.from c.args.by e l a h)
