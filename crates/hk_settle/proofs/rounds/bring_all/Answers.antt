use Rattle.std.proofs.Common.{◌∙◌, arith}
use Rattle.hk_settle.proofs.Stages.{lengthened-trans, named-later}
use Rattle.hk_settle.proofs.Rising.{risen}
use Rattle.hk_settle.proofs.rounds.bring_all.Goals as goal

pub bring-requires : goal.bring-requires
bring-requires c =
    named-later c.args.question.now c.loop-instance.question c.args.found.now c.as_slice-instance-items.result.now c.loop-instance.instance-index c.instance-item.result c.in_ok-copy.copy
    c.loop-instance.invariant.front c.requires.named c.as_slice-instance-items.ensures (omega arith) c.instance-item.is c.in_ok-copy.ensures

pub returns-in_err-bring-clause-front : goal.returns-in_err-bring-clause-front
returns-in_err-bring-clause-front c = lengthened-trans c.args.question.now c.loop-instance.question c.bring.new.question c.loop-instance.invariant.front c.bring.ensures.front

pub loop-instance-preserved : goal.loop-instance-preserved
loop-instance-preserved c = record {
  front = lengthened-trans c.args.question.now c.loop-instance.question c.bring.new.question c.loop-instance.invariant.front c.bring.ensures.front;
  goal = λ v. c.bring.ensures.goal v ∙ c.loop-instance.invariant.goal v;
  first = λ h. absurd (omega arith);
  more = λ _.
      risen c.args.question.now c.loop-instance.question c.bring.new.question c.args.found.now c.as_slice-instance-items.result.now c.loop-instance.instance-index c.instance-item.result c.in_ok-copy.copy
      c.loop-instance.invariant.first c.loop-instance.invariant.more c.requires.fresh c.as_slice-instance-items.ensures (omega arith) c.instance-item.is c.in_ok-copy.ensures c.in_ok-bring.ensures.added c.bring.ensures.front;
}
