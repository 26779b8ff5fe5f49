use Rattle.hk_cnf.proofs.CircuitLaws.{IsGrown-trans}
use Rattle.hk_cnf.proofs.Outcomes.{grown-fresh, beside-fresh, within-fresh, value-fresh, Extends-fresh}
use Rattle.hk_cnf.proofs.gates.Gates.fresh.Goals as goal

pub returns-clause-vars : goal.returns-clause-vars
returns-clause-vars c = (grown-fresh c.args.self.now c.add_variable.new.self c.add_variable.result c.add_variable.ensures.circuit c.add_variable.ensures.err).vars

pub returns-clause-keeps : goal.returns-clause-keeps
returns-clause-keeps c = (grown-fresh c.args.self.now c.add_variable.new.self c.add_variable.result c.add_variable.ensures.circuit c.add_variable.ensures.err).values

pub returns-clause-grows : goal.returns-clause-grows
returns-clause-grows c = λ d g.
    IsGrown-trans d c.args.self.now c.add_variable.new.self g (grown-fresh c.args.self.now c.add_variable.new.self c.add_variable.result c.add_variable.ensures.circuit c.add_variable.ensures.err)

pub returns-clause-within : goal.returns-clause-within
returns-clause-within c =
    within-fresh c.args.self.now c.add_variable.new.self c.add_variable.result c.add_variable.ensures.after c.add_variable.ensures.circuit c.add_variable.ensures.literal

pub returns-clause-value : goal.returns-clause-value
returns-clause-value c =
    value-fresh c.args.self.now c.add_variable.new.self c.add_variable.result c.add_variable.ensures.before c.add_variable.ensures.circuit c.add_variable.ensures.literal

pub returns-clause-extends : goal.returns-clause-extends
returns-clause-extends c = Extends-fresh c.args.self.now c.add_variable.new.self c.add_variable.result c.add_variable.ensures.before c.add_variable.ensures.circuit

pub returns-clause-beside : goal.returns-clause-beside
returns-clause-beside c = beside-fresh c.args.self.now c.add_variable.new.self c.add_variable.result c.add_variable.ensures.circuit c.add_variable.ensures.err
