use Rattle.hk_cnf.specs.Circuit.{conjoined}
use Rattle.hk_cnf.proofs.CircuitLaws.{IsGrown-trans}
use Rattle.hk_cnf.proofs.CircuitMade.{both, Lawful-conjoined}
use Rattle.hk_cnf.proofs.Outcomes.{grown, inputs, beside, within, value, conjunction-if, Extends-grown}
use Rattle.hk_cnf.proofs.gates.Gates.and.Goals as goal

pub returns-clause-vars : goal.returns-clause-vars
returns-clause-vars c = (grown c.args.self.now c.conjoin.new.self (conjoined c.args.self.now c.args.a c.args.b) (both c.args.self.now c.args.a c.args.b) (Lawful-conjoined c.args.self.now c.args.a c.args.b c.conjoin.ensures.before c.requires.first c.requires.second) c.conjoin.ensures.before c.conjoin.ensures.after c.conjoin.result c.conjoin.ensures.circuit c.conjoin.ensures.err).vars

pub returns-clause-keeps : goal.returns-clause-keeps
returns-clause-keeps c = (grown c.args.self.now c.conjoin.new.self (conjoined c.args.self.now c.args.a c.args.b) (both c.args.self.now c.args.a c.args.b) (Lawful-conjoined c.args.self.now c.args.a c.args.b c.conjoin.ensures.before c.requires.first c.requires.second) c.conjoin.ensures.before c.conjoin.ensures.after c.conjoin.result c.conjoin.ensures.circuit c.conjoin.ensures.err).values

pub returns-clause-grows : goal.returns-clause-grows
returns-clause-grows c = λ d h. IsGrown-trans d c.args.self.now c.conjoin.new.self h (grown c.args.self.now c.conjoin.new.self (conjoined c.args.self.now c.args.a c.args.b) (both c.args.self.now c.args.a c.args.b) (Lawful-conjoined c.args.self.now c.args.a c.args.b c.conjoin.ensures.before c.requires.first c.requires.second) c.conjoin.ensures.before c.conjoin.ensures.after c.conjoin.result c.conjoin.ensures.circuit c.conjoin.ensures.err)

pub returns-clause-inputs : goal.returns-clause-inputs
returns-clause-inputs c = inputs c.args.self.now c.conjoin.new.self (conjoined c.args.self.now c.args.a c.args.b) (both c.args.self.now c.args.a c.args.b) (Lawful-conjoined c.args.self.now c.args.a c.args.b c.conjoin.ensures.before c.requires.first c.requires.second) c.conjoin.ensures.before c.conjoin.ensures.after c.conjoin.result c.conjoin.ensures.circuit c.conjoin.ensures.err

pub returns-clause-within : goal.returns-clause-within
returns-clause-within c = within c.args.self.now c.conjoin.new.self (conjoined c.args.self.now c.args.a c.args.b) (both c.args.self.now c.args.a c.args.b) (Lawful-conjoined c.args.self.now c.args.a c.args.b c.conjoin.ensures.before c.requires.first c.requires.second) c.conjoin.ensures.before c.conjoin.ensures.after c.conjoin.result c.conjoin.ensures.circuit c.conjoin.ensures.literal

pub returns-clause-value : goal.returns-clause-value
returns-clause-value c = value c.args.self.now c.conjoin.new.self (conjoined c.args.self.now c.args.a c.args.b) (both c.args.self.now c.args.a c.args.b) (Lawful-conjoined c.args.self.now c.args.a c.args.b c.conjoin.ensures.before c.requires.first c.requires.second) c.conjoin.ensures.before c.conjoin.ensures.after c.conjoin.result c.conjoin.ensures.circuit c.conjoin.ensures.literal

pub returns-clause-extends : goal.returns-clause-extends
returns-clause-extends c = Extends-grown c.args.self.now c.conjoin.new.self c.conjoin.ensures.before c.conjoin.ensures.after (grown c.args.self.now c.conjoin.new.self (conjoined c.args.self.now c.args.a c.args.b) (both c.args.self.now c.args.a c.args.b) (Lawful-conjoined c.args.self.now c.args.a c.args.b c.conjoin.ensures.before c.requires.first c.requires.second) c.conjoin.ensures.before c.conjoin.ensures.after c.conjoin.result c.conjoin.ensures.circuit c.conjoin.ensures.err)

pub returns-clause-conjunction : goal.returns-clause-conjunction
returns-clause-conjunction c =
    conjunction-if c.args.self.now c.conjoin.new.self c.args.a c.args.b c.conjoin.result c.conjoin.ensures.after c.requires.first c.requires.second (grown c.args.self.now c.conjoin.new.self (conjoined c.args.self.now c.args.a c.args.b) (both c.args.self.now c.args.a c.args.b) (Lawful-conjoined c.args.self.now c.args.a c.args.b c.conjoin.ensures.before c.requires.first c.requires.second) c.conjoin.ensures.before c.conjoin.ensures.after c.conjoin.result c.conjoin.ensures.circuit c.conjoin.ensures.err)
    (value c.args.self.now c.conjoin.new.self (conjoined c.args.self.now c.args.a c.args.b) (both c.args.self.now c.args.a c.args.b) (Lawful-conjoined c.args.self.now c.args.a c.args.b c.conjoin.ensures.before c.requires.first c.requires.second) c.conjoin.ensures.before c.conjoin.ensures.after c.conjoin.result c.conjoin.ensures.circuit c.conjoin.ensures.literal)

pub returns-clause-beside : goal.returns-clause-beside
returns-clause-beside c = beside c.args.self.now c.conjoin.new.self (conjoined c.args.self.now c.args.a c.args.b) (both c.args.self.now c.args.a c.args.b) (Lawful-conjoined c.args.self.now c.args.a c.args.b c.conjoin.ensures.before c.requires.first c.requires.second) c.conjoin.ensures.before c.conjoin.ensures.after c.conjoin.result c.conjoin.ensures.circuit c.conjoin.ensures.err
