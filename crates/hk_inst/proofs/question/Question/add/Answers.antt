use Rattle.std.proofs.Common.{◌≡◌, ◌<◌, ◌++◌, ◌∷◌, [], false, length, subst}
use Rattle.std.specs.Prelude.{OnOk}
use Rattle.std.proofs.lemmas.Result.{on_ok_weaker}
use Rattle.hk_inst.specs.Truths.{is_among}
use Rattle.hk_inst.proofs.InstancesLeft.{left-no_more, left-falls}
use Rattle.hk_inst.specs.Questions.{Asked}
use Rattle.hk_inst.specs.States.{asked_of}
use Rattle.hk_inst.specs.Adding.{Lengthened}
use Rattle.hk_inst.proofs.KeptQuestions.{kept-question, goal-within, same-goal, longer-exact}
use Rattle.hk_inst.proofs.question.Question.add.Goals as goal

pub returns-clause-asked : goal.returns-clause-asked
returns-clause-asked c = kept-question c.self.inside.state c.args.self.now c.self.invariant c.self.view_is

pub returns-clause-goal : goal.returns-clause-goal
returns-clause-goal c =
    same-goal c.args.self.now (asked_of c.add-done.new.s) (subst (λ p. Lengthened p (asked_of c.add-done.new.s)) c.self.view_is c.add-done.ensures.front)
    (subst (λ (p : Asked). p.goal < length p.nodes) c.self.view_is (goal-within c.self.inside.state c.self.invariant))

pub returns-clause-exact : goal.returns-clause-exact
returns-clause-exact c =
    longer-exact c.args.self.now c.add-done.new.s (subst (λ p. Lengthened p (asked_of c.add-done.new.s)) c.self.view_is c.add-done.ensures.front)
    (subst (λ (p : Asked). p.goal < length p.nodes) c.self.view_is (goal-within c.self.inside.state c.self.invariant)) c.add-done.ensures.kept

pub returns-clause-left_no_more : goal.returns-clause-left_no_more
returns-clause-left_no_more c =
    left-no_more c.args.self.now (asked_of c.add-done.new.s) (subst (λ p. Lengthened p (asked_of c.add-done.new.s)) c.self.view_is c.add-done.ensures.front)
    (subst (λ (p : Asked). p.goal < length p.nodes) c.self.view_is (goal-within c.self.inside.state c.self.invariant))

pub returns-clause-left : goal.returns-clause-left
returns-clause-left c =
    on_ok_weaker c.add-done.result
    (λ added fresh. left-falls c.args.self.now c.add-done.new.s (subst (λ p. Lengthened p (asked_of c.add-done.new.s)) c.self.view_is c.add-done.ensures.front)
    (subst (λ (p : Asked). p.goal < length p.nodes) c.self.view_is (goal-within c.self.inside.state c.self.invariant)) c.add-done.ensures.kept c.args.instance (added fresh))
    (subst (λ (p : Asked). OnOk c.add-done.result (is_among p.instances c.args.instance ≡ false → c.add-done.new.s.instances ≡ p.instances ++ c.args.instance ∷ [])) c.self.view_is c.add-done.ensures.added)
