use Rattle.hk_inst.proofs.KeptQuestions.{kept-exact}
use Rattle.hk_inst.proofs.question.Question.clauses.Goals as goal

pub returns-clause-exact : goal.returns-clause-exact
returns-clause-exact c = kept-exact c.self.inside.state c.args.self.now c.clauses.result.now c.self.invariant c.self.view_is c.clauses.ensures.same
