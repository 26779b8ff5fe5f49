use Rattle.hk_cdcl.proofs.Extending.{extends-trans}
use Rattle.hk_cdcl.proofs.watched.WatchedPropagate.propagate.Goals as goal

pub returns-in-Full-clause-extends : goal.returns-in-Full-clause-extends
returns-in-Full-clause-extends c = extends-trans c.args.clauses.now.clauses c.args.trail.now c.try_propagate.new.trail c.scan.new.trail c.try_propagate.ensures.extends c.scan.ensures.extends
