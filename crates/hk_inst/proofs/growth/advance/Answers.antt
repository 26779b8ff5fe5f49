use Rattle.std.proofs.Common.{subst}
use Rattle.hk_blast.specs.Blasted.{word_in}
use Rattle.hk_inst.specs.States.{asked_of, IsTask}
use Rattle.hk_inst.proofs.QuestionFacts.{known-within}
use Rattle.hk_inst.proofs.StateSteps.{passed}
use Rattle.hk_inst.proofs.growth.advance.Goals as goal

pub task_for-requires : goal.task_for-requires
task_for-requires c = known-within c.args.s.now.terms c.args.s.now.gates c.args.s.now.bits c.requires.growing.base.blasted c.at-t.result c.at-t.ensures.there

pub returns-in-Nothing-clause-growing : goal.returns-in-Nothing-clause-growing
returns-in-Nothing-clause-growing c =
    let told = subst (IsTask c.args.s.now.terms c.at-t.result) c.in-Nothing.is c.in_ok-index.ensures in
    passed (asked_of c.args.s.now) c.args.s.now.first c.args.s.now.next c.args.done (c.at-t.result, word_in c.args.s.now.bits c.at-t.result) c.at-t.ensures.entry told.0 told.1 c.requires.growing
