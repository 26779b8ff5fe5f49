use Rattle.hk_inst_goals.proofs.NarrowLaws.{found-goal}
use Rattle.hk_inst_goals.proofs.build.goal_of.Goals as goal

pub returns-clause-goal : goal.returns-clause-goal
returns-clause-goal c = found-goal c.args.terms.now c.add_all.new.terms c.last_truth-goal.result c.requires c.in_ok-all.ensures c.last_truth-goal.ensures.truth
