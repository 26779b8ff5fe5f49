use Rattle.std.proofs.Common.{◌≡◌, subst}
use Rattle.hk_term.specs.Meaning.{reading_of}
use Rattle.hk_inst.specs.Inputs.{number_in, completed}
use Rattle.hk_inst.specs.Questions.{Asked}
use Rattle.hk_inst.proofs.KeptQuestions.{kept-decides}
use Rattle.hk_inst.proofs.question.Question.complete.Goals as goal

pub returns-clause-decides : goal.returns-clause-decides
returns-clause-decides c =
    kept-decides c.self.inside.state c.args.self.now c.args.a.now c.self.invariant c.self.view_is c.requires.satisfied (reading_of c.in_ok-case.case)
    (subst (λ (x : Asked). reading_of c.in_ok-case.case ≡ completed x.nodes x.table (number_in x.table.words c.args.a.now)) c.self.view_is c.in_ok-case.ensures.case)
