use Rattle.hk_cdcl.proofs.Extending.{extends-trans}
use Rattle.hk_cdcl.proofs.watched.Watched.settle_all.Goals as goal

pub returns-in-Quiet-clause-extends : goal.returns-in-Quiet-clause-extends
returns-in-Quiet-clause-extends c = extends-trans c.args.clauses.now.clauses c.args.trail.now c.attach_all.new.trail c.run.new.trail c.attach_all.ensures.extends c.run.ensures.extends
