use Rattle.std.proofs.Common.{ap, ◌∙◌}
use Rattle.std.proofs.lemmas.Result.{on_ok_weaker}
use Rattle.hk_cnf.specs.CircuitGrowth.{holds, inputs_of}
use Rattle.hk_cnf.specs.Required.{required_of}
use Rattle.hk_cnf.proofs.FrontLaws.{IsFront-trans}
use Rattle.hk_cnf.proofs.RequiredLaws.{inputs-requiring, required-requiring, holds-requiring, front-required, gates-required, values-same}
use Rattle.hk_cnf.proofs.gates.Gates.require.Goals as goal

pub returns-clause-keeps : goal.returns-clause-keeps
returns-clause-keeps c =
    values-same c.args.self.now c.add_clause.new.self (gates-required c.args.self.now c.add_clause.new.self c.args.lits.now c.add_clause.result c.add_clause.ensures.ok c.add_clause.ensures.err)

pub returns-clause-front : goal.returns-clause-front
returns-clause-front c = λ d h.
    IsFront-trans d c.args.self.now c.add_clause.new.self h (front-required c.args.self.now c.add_clause.new.self c.args.lits.now c.add_clause.result c.add_clause.ensures.ok c.add_clause.ensures.err)

pub returns-clause-inputs : goal.returns-clause-inputs
returns-clause-inputs c =
    on_ok_weaker c.add_clause.result (λ e. ap inputs_of e ∙ inputs-requiring c.args.self.now c.args.lits.now c.add_clause.ensures.before) c.add_clause.ensures.ok

pub returns-clause-beside : goal.returns-clause-beside
returns-clause-beside c =
    on_ok_weaker c.add_clause.result (λ e. ap required_of e ∙ required-requiring c.args.self.now c.args.lits.now c.add_clause.ensures.before) c.add_clause.ensures.ok

pub returns-clause-holds : goal.returns-clause-holds
returns-clause-holds c =
    on_ok_weaker c.add_clause.result (λ e v. ap (λ d. holds d v) e ∙ holds-requiring c.args.self.now c.args.lits.now v) c.add_clause.ensures.ok
