use Rattle.hk_cdcl.proofs.Extending.{extends-refl, extends-trans}
use Rattle.hk_cdcl.proofs.watched.Watched.run.Goals as goal

pub loop-head-init : goal.loop-head-init
loop-head-init c = (extends-refl c.args.clauses.now.clauses c.args.trail.now, c.requires.propagating)

pub loop-head-preserved : goal.loop-head-preserved
loop-head-preserved c = (extends-trans c.args.clauses.now.clauses c.args.trail.now c.loop-head.trail c.falsify.new.trail c.loop-head.invariant.0 c.falsify.ensures.extends, c.in-Quiet.ensures.came)

pub returns-in-Conflict-clause-extends : goal.returns-in-Conflict-clause-extends
returns-in-Conflict-clause-extends c = extends-trans c.args.clauses.now.clauses c.args.trail.now c.loop-head.trail c.falsify.new.trail c.loop-head.invariant.0 c.falsify.ensures.extends

pub returns-in-Full-clause-extends : goal.returns-in-Full-clause-extends
returns-in-Full-clause-extends c = extends-trans c.args.clauses.now.clauses c.args.trail.now c.loop-head.trail c.falsify.new.trail c.loop-head.invariant.0 c.falsify.ensures.extends
