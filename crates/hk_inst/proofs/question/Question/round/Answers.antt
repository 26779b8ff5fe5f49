use Rattle.std.proofs.Common.{◌≡◌, ◌∙◌, [], subst}
use Rattle.std.specs.List.{All}
use Rattle.hk_term.specs.Meaning.{reading_of, value}
use Rattle.hk_inst.specs.Inputs.{number_in, completed}
use Rattle.hk_inst.specs.Questions.{Asked}
use Rattle.hk_inst.specs.Violations.{IsViolated}
use Rattle.hk_inst.proofs.KeptQuestions.{kept-decides}
use Rattle.hk_inst.proofs.question.Question.round.Goals as goal

pub returns-clause-reading : goal.returns-clause-reading
returns-clause-reading c =
    subst (λ (x : Asked). reading_of c.violated_in.new.case ≡ completed x.nodes x.table (number_in x.table.words c.args.a.now)) c.self.view_is (c.in_ok-found.ensures.case ∙ c.in_ok-case.ensures.case)

pub returns-clause-decides : goal.returns-clause-decides
returns-clause-decides c = kept-decides c.self.inside.state c.args.self.now c.args.a.now c.self.invariant c.self.view_is c.requires.satisfied (reading_of c.violated_in.new.case) (returns-clause-reading c)

pub returns-clause-holds : goal.returns-clause-holds
returns-clause-holds c =
    subst (λ (q : Asked). value q.nodes q.goal (completed q.nodes q.table (number_in q.table.words c.args.a.now)) ≡ 1 → c.in_ok-found.found ≡ []) c.self.view_is c.in_ok-found.ensures.holds

pub returns-clause-each : goal.returns-clause-each
returns-clause-each c =
    subst (λ (q : Asked). All (IsViolated q (number_in q.table.words c.args.a.now) (completed q.nodes q.table (number_in q.table.words c.args.a.now))) c.in_ok-found.found) c.self.view_is c.in_ok-found.ensures.each
