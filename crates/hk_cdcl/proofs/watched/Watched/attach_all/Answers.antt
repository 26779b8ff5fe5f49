use Rattle.hk_cdcl.proofs.Extending.{extends-refl, extends-trans}
use Rattle.hk_cdcl.proofs.watched.Watched.attach_all.Goals as goal

pub loop-self-init : goal.loop-self-init
loop-self-init c = (extends-refl c.args.clauses.now.clauses c.args.trail.now, c.requires.propagating)

pub loop-self-preserved : goal.loop-self-preserved
loop-self-preserved c = (extends-trans c.args.clauses.now.clauses c.args.trail.now c.loop-self.trail c.attach.new.trail c.loop-self.invariant.0 c.attach.ensures.extends, c.in-Quiet.ensures.came)

pub returns-in-Conflict-clause-extends : goal.returns-in-Conflict-clause-extends
returns-in-Conflict-clause-extends c = extends-trans c.args.clauses.now.clauses c.args.trail.now c.loop-self.trail c.attach.new.trail c.loop-self.invariant.0 c.attach.ensures.extends

pub returns-in-Full-clause-extends : goal.returns-in-Full-clause-extends
returns-in-Full-clause-extends c = extends-trans c.args.clauses.now.clauses c.args.trail.now c.loop-self.trail c.attach.new.trail c.loop-self.invariant.0 c.attach.ensures.extends
