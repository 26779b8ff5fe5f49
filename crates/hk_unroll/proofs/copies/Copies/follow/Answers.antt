use Rattle.std.proofs.Common.{◌∙◌, ◌<◌, length, arith}
use Rattle.hk_graph.specs.Walks.{targets_of}
use Rattle.hk_unroll.specs.Arriving.{AreSized}
use Rattle.hk_unroll.proofs.ArrivingLaws.{led_within, edge_next}
use Rattle.hk_unroll.proofs.copies.Copies.follow.Goals as goal

pub arrive-requires-clause-turns : goal.arrive-requires-clause-turns
arrive-requires-clause-turns c =
    let s : AreSized (length c.args.graph.now) c.args.most c.loop-to.self.layers.items = c.loop-to.invariant.follows.sized (length c.args.graph.now) c.requires.sized in
    λ h. omega (arith, s.turns)

pub arrive-requires-clause-block : goal.arrive-requires-clause-block
arrive-requires-clause-block c =
    let s : AreSized (length c.args.graph.now) c.args.most c.loop-to.self.layers.items = c.loop-to.invariant.follows.sized (length c.args.graph.now) c.requires.sized in
    let below : c.led_to-copy.result.block < length c.args.graph.now =
    led_within c.args.graph.now c.args.from c.led_to-copy.result c.targets-to-items.result.now c.loop-to.to-index c.requires.within c.targets-to-items.ensures c.loop-to-test.true c.led_to-copy.ensures in
    λ h. omega (arith, below, s.rows c.led_to-copy.result.turns (omega arith))

pub loop-to-preserved : goal.loop-to-preserved
loop-to-preserved c = record {
  made = c.in_ok-arrive.ensures.made ∙ c.loop-to.invariant.made;
  follows = edge_next c.args.most c.args.from c.led_to-copy.result c.targets-to-items.result.now (targets_of c.args.graph.now c.args.from.block) c.loop-to.to-index
      c.args.self.now.layers.items c.loop-to.self.layers.items c.arrive.new.self.layers.items c.targets-to-items.ensures c.loop-to-test.true c.led_to-copy.ensures
      c.loop-to.invariant.follows c.in_ok-arrive.ensures.arrives;
}
