use Rattle.hk_inst.proofs.QuestionFacts.{known-within}
use Rattle.hk_inst.proofs.question.Question.goal_holds.Goals as goal

pub holds-requires : goal.holds-requires
holds-requires c =
    let base = c.self.invariant.growing.base in
    known-within c.self.inside.state.terms c.self.inside.state.gates c.self.inside.state.bits base.blasted c.self.inside.state.goal base.of_goal
