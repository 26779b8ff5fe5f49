use Rattle.std.proofs.Common.{refl, None, get_or}
use Rattle.spec_lines.proofs.Tallies.{tallied_more}
use Rattle.spec_lines.proofs.equated.times_of.Goals as goal

pub each-preserved : goal.each-preserved
each-preserved c =
    tallied_more c.each.times.items c.add_place.new.times.items c.args.places.now c.each.place-index (get_or c.args.places.now c.each.place-index None)
    c.each-test.true refl c.in_ok-add_place.ensures c.each.invariant
