use Rattle.std.proofs.Common.{get_or, refl, arith}
use Rattle.hk_cdcl.specs.Analysis.{is_redundant}
use Rattle.hk_cdcl.proofs.Collecting.{gathered-more, collected-of}
use Rattle.hk_cdcl.proofs.learn.collect.Goals as goal

pub loop-place-preserved : goal.loop-place-preserved
loop-place-preserved c =
    gathered-more c.args.trail.now.lits (is_redundant c.args.clauses.now.clauses c.args.trail.now c.args.seen.now) c.args.lower.now c.loop-place.place-index (get_or c.args.lower.now c.loop-place.place-index 0) c.args.below c.args.uip c.loop-place.parts.clause.items c.add_place.new.parts.clause.items c.loop-place.parts.dropped.items c.add_place.new.parts.dropped.items c.loop-place.parts.rest c.add_place.new.parts.rest
    c.loop-place.invariant c.loop-place-test.true refl (c.requires.lower.sound c.loop-place.place-index 0 c.loop-place-test.true) c.in_ok-add_place.ensures

pub returns : goal.returns
returns c = collected-of c.args.trail.now.lits c.args.seen.now (is_redundant c.args.clauses.now.clauses c.args.trail.now c.args.seen.now) c.args.lower.now c.loop-place.place-index c.args.below c.args.uip c.loop-place.parts.clause.items c.loop-place.parts.dropped.items c.loop-place.parts.rest c.requires.after c.requires.inside (omega arith) c.loop-place.invariant c.requires.lower
