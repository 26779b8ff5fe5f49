use Rattle.std.proofs.Common.{refl, subst, IfOk}
use Rattle.hk_cdcl.specs.Ends.{Came}
use Rattle.hk_cdcl.specs.Rounds.{held_of}
use Rattle.hk_cdcl.proofs.Rounding.{ran-solver, ran-accepted, ran-came}
use Rattle.hk_cdcl.proofs.solver.Solver.run.Goals as goal

pub invariant_of-self : goal.invariant_of-self
invariant_of-self c = ran-solver c.self.inside (record c.self.inside { search = c.call.new.search; active = c.call.new.active; kept = c.call.new.kept; watched = c.call.new.watched }) c.self.invariant refl c.call.ensures.learns

pub returns-clause-accepted : goal.returns-clause-accepted
returns-clause-accepted c = ran-accepted c.self.inside (record c.self.inside { search = c.call.new.search; active = c.call.new.active; kept = c.call.new.kept; watched = c.call.new.watched }) c.self.invariant refl c.call.ensures.learns

pub returns-clause-came : goal.returns-clause-came
returns-clause-came c =
    subst (λ h. IfOk c.call.result (Came h (held_of (record c.self.inside { search = c.call.new.search; active = c.call.new.active; kept = c.call.new.kept; watched = c.call.new.watched })) c.args.budget)) c.self.view_is
    (ran-came c.self.inside (record c.self.inside { search = c.call.new.search; active = c.call.new.active; kept = c.call.new.kept; watched = c.call.new.watched }) c.args.budget c.call.result c.self.invariant c.call.ensures.learns c.call.ensures.called)
