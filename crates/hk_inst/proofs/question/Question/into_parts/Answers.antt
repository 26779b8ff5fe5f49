use Rattle.std.proofs.Common.{◌∙◌, nat_eq, ap, sym, subst}
use Rattle.hk_term.specs.Meaning.{value}
use Rattle.hk_inst.specs.Exactness.{Exact}
use Rattle.hk_inst.proofs.KeptQuestions.{kept-exact}
use Rattle.hk_inst.proofs.question.Question.into_parts.Goals as goal

pub returns-clause-exact : goal.returns-clause-exact
returns-clause-exact c =
    subst (λ is. Exact (λ v. nat_eq (value c.args.self.nodes c.args.self.goal v) 1) is c.into_clauses.result) (sym (ap (λ q. q.instances) c.self.view_is) ∙ sym c.into_list.ensures)
    (kept-exact c.self.inside.state c.args.self c.into_clauses.result c.self.invariant c.self.view_is c.into_clauses.ensures.same)
