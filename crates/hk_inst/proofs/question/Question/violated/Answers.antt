use Rattle.std.proofs.Common.{◌≡◌, [], List, subst}
use Rattle.std.specs.Prelude.{IfOk}
use Rattle.hk_term.specs.Meaning.{value}
use Rattle.hk_inst.specs.declared.instance.Instance.{Instance}
use Rattle.hk_inst.specs.Inputs.{number_in, completed}
use Rattle.hk_inst.specs.Questions.{Asked}
use Rattle.hk_inst.proofs.question.Question.violated.Goals as goal

pub returns-clause-holds : goal.returns-clause-holds
returns-clause-holds c =
    subst (λ (q : Asked). IfOk c.violated-found.result (λ (l : List Instance). value q.nodes q.goal (completed q.nodes q.table (number_in q.table.words c.args.a.now)) ≡ 1 → l ≡ [])) c.self.view_is c.violated-found.ensures.holds
