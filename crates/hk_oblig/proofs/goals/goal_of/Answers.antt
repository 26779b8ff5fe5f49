use Rattle.std.proofs.Common.{ap, sym, ◌∙◌}
use Rattle.hk_oblig.specs.GoalTruths.{goal_is}
use Rattle.hk_oblig.proofs.TellingLaws.{value_told}
use Rattle.hk_oblig.proofs.goals.goal_of.Goals as goal

pub returns-in_ok-goal-in-Run-clause-violates : goal.returns-in_ok-goal-in-Run-clause-violates
returns-in_ok-goal-in-Run-clause-violates c = λ m s u x v told.
    value_told m c.args.t.now c.run_goal.new.t v c.args.parts.now s u c.args.o x c.in_ok-goal-in-Run.goal
    (c.in_ok-goal-in-Run.ensures.value v ∙ ap (λ q. goal_is c.args.t.now q c.args.o v) (sym c.in-Run.is)) c.requires.there told

pub returns-in_ok-goal-in-Step-clause-violates : goal.returns-in_ok-goal-in-Step-clause-violates
returns-in_ok-goal-in-Step-clause-violates c = λ m s u x v told.
    value_told m c.args.t.now c.step_goal.new.t v c.args.parts.now s u c.args.o x c.in_ok-goal-in-Step.goal
    (c.in_ok-goal-in-Step.ensures.value v ∙ ap (λ q. goal_is c.args.t.now q c.args.o v) (sym c.in-Step.is)) c.requires.there told
