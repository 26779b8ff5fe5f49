use Rattle.std.proofs.Common.{◌≤◌, arith, subst}
use Rattle.hk_inst.specs.Questions.{Asked}
use Rattle.hk_inst.specs.Left.{room}
use Rattle.hk_inst.proofs.InstancesLeft.{kept-room}
use Rattle.hk_inst.proofs.question.Question.instance_count.Goals as goal

pub returns-clause-room : goal.returns-clause-room
returns-clause-room c = subst (λ (q : Asked). c.len.result ≤ room q.nodes q.goal) c.self.view_is (omega (arith, c.len.ensures, kept-room c.self.inside.state c.self.invariant))
