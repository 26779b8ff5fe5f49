use Rattle.std.proofs.Common.{arith}
use Rattle.hk_cdcl.proofs.Dropping.{led-none, led-more, led-all}
use Rattle.hk_cdcl.proofs.learn.dropped_hints.Goals as goal

pub loop-place-init : goal.loop-place-init
loop-place-init c = λ clauses seen from d conflict le k. led-none clauses d c.args.trail.now seen c.args.dropped.now from conflict c.new-hints.result c.new-hints.ensures le k

pub loop-place-preserved : goal.loop-place-preserved
loop-place-preserved c = λ clauses seen from d conflict le k.
    led-more clauses d c.args.trail.now seen c.args.dropped.now from conflict c.loop-place.place-index c.loop-place.next c.in_ok-next.next c.loop-place.hints c.hint_once.new.hints le c.requires.rising k c.loop-place-test.true c.in_ok-next.ensures (c.loop-place.invariant clauses seen from d conflict le k)

pub returns : goal.returns
returns c = λ clauses seen from d conflict le k.
    led-all clauses d c.args.trail.now seen c.args.dropped.now from c.loop-place.place-index c.loop-place.next c.loop-place.hints (omega arith) (c.loop-place.invariant clauses seen from d conflict le k)
