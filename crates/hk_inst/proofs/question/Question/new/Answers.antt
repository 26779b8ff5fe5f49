use Rattle.std.proofs.Common.{Bool, nat_eq, List, length, ap, ◌∙◌, subst, arith}
use Rattle.hk_inst.specs.Left.{room}
use Rattle.hk_inst.proofs.InstancesLeft.{same-room}
use Rattle.hk_term.specs.Meaning.{Reading, value}
use Rattle.hk_copy.proofs.StepLaws.{longer-value}
use Rattle.hk_inst.specs.declared.instance.Instance.{Instance}
use Rattle.hk_inst.specs.Exactness.{Exact}
use Rattle.hk_inst.specs.States.{asked_of}
use Rattle.hk_inst.proofs.Beginning.{question-of}
use Rattle.hk_inst.proofs.Whole.{exact}
use Rattle.hk_inst.proofs.question.Question.new.Goals as goal

pub returns-clause-goal : goal.returns-clause-goal
returns-clause-goal c = λ v.
    ap (λ g. value c.in_ok-state.state.terms g v) c.in_ok-state.ensures.goal ∙ longer-value c.args.terms c.in_ok-state.state.terms c.in_ok-state.ensures.terms c.args.goal c.requires.there v

pub returns-clause-exact : goal.returns-clause-exact
returns-clause-exact c =
    let s = c.in_ok-state.state in
    let k = c.in_ok-state.ensures.kept in
    subst (λ (z : (Reading → Bool) × List Instance). Exact z.0 z.1 (record { vars = s.gates.vars; clauses = s.gates.clauses })) (λ i. (λ v. nat_eq (returns-clause-goal c v i) 1, c.in_ok-state.ensures.instances i))
    (exact (asked_of s) (question-of (asked_of s) s.first s.next k.growing k.stepped))

pub returns-clause-left : goal.returns-clause-left
returns-clause-left c =
    let s = c.in_ok-state.state in
    omega (arith, ap (room s.terms) c.in_ok-state.ensures.goal, same-room c.args.terms s.terms c.args.goal c.in_ok-state.ensures.terms c.requires.there, ap length c.in_ok-state.ensures.instances)
