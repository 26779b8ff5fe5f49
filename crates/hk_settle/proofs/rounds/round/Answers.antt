use Rattle.std.proofs.Common.{◌∙◌}
use Rattle.hk_settle.proofs.Stages.{longer-lists, lengthened-trans}
use Rattle.hk_settle.proofs.rounds.round.Goals as goal

pub grow-requires : goal.grow-requires
grow-requires c =
    longer-lists c.args.question.now c.offer_all.new.question c.solve.new.self.list c.clauses.result.now
    (lengthened-trans c.args.question.now c.bring_all.new.question c.offer_all.new.question c.in_ok-bring_all-in-Sat.ensures.front c.offer_all.ensures.front)
    (c.solve.ensures.list ∙ c.requires.list) c.clauses.ensures.same

pub returns-in_err-offer_all-in-Sat-clause-goal : goal.returns-in_err-offer_all-in-Sat-clause-goal
returns-in_err-offer_all-in-Sat-clause-goal c = λ v. c.offer_all.ensures.goal v ∙ c.in_ok-bring_all-in-Sat.ensures.goal v
