use Rattle.std.proofs.Common.{true}
use Rattle.hk_cnf.specs.declared.operation.Operation.TheVariants.{True}
use Rattle.hk_cnf.specs.Circuit.{made}
use Rattle.hk_cnf.proofs.CircuitLaws.{IsGrown-trans}
use Rattle.hk_cnf.proofs.Outcomes.{constant-law, grown, inputs, beside, within, value, Extends-grown}
use Rattle.hk_cnf.proofs.gates.Gates.constant.Goals as goal

pub returns-clause-vars : goal.returns-clause-vars
returns-clause-vars c = (grown c.args.self.now c.make.new.self (made c.args.self.now True) (λ _. true) (constant-law c.args.self.now c.make.ensures.before) c.make.ensures.before c.make.ensures.after c.make.result c.make.ensures.circuit c.make.ensures.err).vars

pub returns-clause-keeps : goal.returns-clause-keeps
returns-clause-keeps c = (grown c.args.self.now c.make.new.self (made c.args.self.now True) (λ _. true) (constant-law c.args.self.now c.make.ensures.before) c.make.ensures.before c.make.ensures.after c.make.result c.make.ensures.circuit c.make.ensures.err).values

pub returns-clause-grows : goal.returns-clause-grows
returns-clause-grows c = λ d h. IsGrown-trans d c.args.self.now c.make.new.self h (grown c.args.self.now c.make.new.self (made c.args.self.now True) (λ _. true) (constant-law c.args.self.now c.make.ensures.before) c.make.ensures.before c.make.ensures.after c.make.result c.make.ensures.circuit c.make.ensures.err)

pub returns-clause-inputs : goal.returns-clause-inputs
returns-clause-inputs c = inputs c.args.self.now c.make.new.self (made c.args.self.now True) (λ _. true) (constant-law c.args.self.now c.make.ensures.before) c.make.ensures.before c.make.ensures.after c.make.result c.make.ensures.circuit c.make.ensures.err

pub returns-clause-within : goal.returns-clause-within
returns-clause-within c = within c.args.self.now c.make.new.self (made c.args.self.now True) (λ _. true) (constant-law c.args.self.now c.make.ensures.before) c.make.ensures.before c.make.ensures.after c.make.result c.make.ensures.circuit c.make.ensures.literal

pub returns-clause-value : goal.returns-clause-value
returns-clause-value c = value c.args.self.now c.make.new.self (made c.args.self.now True) (λ _. true) (constant-law c.args.self.now c.make.ensures.before) c.make.ensures.before c.make.ensures.after c.make.result c.make.ensures.circuit c.make.ensures.literal

pub returns-clause-extends : goal.returns-clause-extends
returns-clause-extends c = Extends-grown c.args.self.now c.make.new.self c.make.ensures.before c.make.ensures.after (grown c.args.self.now c.make.new.self (made c.args.self.now True) (λ _. true) (constant-law c.args.self.now c.make.ensures.before) c.make.ensures.before c.make.ensures.after c.make.result c.make.ensures.circuit c.make.ensures.err)

pub returns-clause-beside : goal.returns-clause-beside
returns-clause-beside c = beside c.args.self.now c.make.new.self (made c.args.self.now True) (λ _. true) (constant-law c.args.self.now c.make.ensures.before) c.make.ensures.before c.make.ensures.after c.make.result c.make.ensures.circuit c.make.ensures.err
