use Rattle.hk_cdcl.proofs.Extending.{extends-refl, extends-trans}
use Rattle.hk_cdcl.proofs.scan.scan.Goals as goal

pub rounds-init : goal.rounds-init
rounds-init c = extends-refl c.args.clauses.now.clauses c.args.trail.now

pub returns-in-Some-clause-extends : goal.returns-in-Some-clause-extends
returns-in-Some-clause-extends c = extends-trans c.args.clauses.now.clauses c.args.trail.now c.rounds.trail c.round.new.trail c.rounds.invariant c.round.ensures.extends

pub rounds-preserved : goal.rounds-preserved
rounds-preserved c = extends-trans c.args.clauses.now.clauses c.args.trail.now c.rounds.trail c.round.new.trail c.rounds.invariant c.round.ensures.extends
