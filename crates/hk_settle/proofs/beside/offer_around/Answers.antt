use Rattle.std.proofs.Common.{◌∙◌}
use Rattle.hk_settle.proofs.Stages.{lengthened-trans}
use Rattle.hk_settle.proofs.beside.offer_around.Goals as goal

pub returns-in_err-offer_beside-2-clause-front : goal.returns-in_err-offer_beside-2-clause-front
returns-in_err-offer_beside-2-clause-front c =
    lengthened-trans c.args.question.now c.offer_beside.new.question c.offer_beside-in-loop-by.new.question
    (lengthened-trans c.args.question.now c.loop-by.question c.offer_beside.new.question c.loop-by.invariant.front c.offer_beside.ensures.front)
    c.offer_beside-in-loop-by.ensures.front

pub loop-by-preserved : goal.loop-by-preserved
loop-by-preserved c = record {
  front =
      lengthened-trans c.args.question.now c.offer_beside.new.question c.offer_beside-in-loop-by.new.question
      (lengthened-trans c.args.question.now c.loop-by.question c.offer_beside.new.question c.loop-by.invariant.front c.offer_beside.ensures.front)
      c.offer_beside-in-loop-by.ensures.front;
  goal = λ v. c.offer_beside-in-loop-by.ensures.goal v ∙ c.offer_beside.ensures.goal v ∙ c.loop-by.invariant.goal v;
}
