use Rattle.hk_unroll.specs.Copies.{copies_of}
use Rattle.hk_unroll.proofs.ArrivingLaws.{turns_done}
use Rattle.hk_unroll.proofs.copies.Copies.of.Goals as goal

pub loop-turns-preserved : goal.loop-turns-preserved
loop-turns-preserved c = record {
  made = turns_done c.args.graph.now c.loop-turns.copies.made.items c.visit.new.self.made.items (copies_of c.args.graph.now c.args.most) c.loop-turns.turns c.args.most
      c.loop-turns-test.true c.loop-turns.invariant.made c.in_ok-visit.ensures.made;
  arrivals = c.in_ok-visit.ensures.arrivals;
}
