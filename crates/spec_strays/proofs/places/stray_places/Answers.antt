use Rattle.spec_kernel.specs.Seen.{kernel_in}
use Rattle.spec_strays.proofs.Placing.{places_more}
use Rattle.spec_strays.proofs.places.stray_places.Goals as goal

pub each-preserved : goal.each-preserved
each-preserved c =
    places_more (kernel_in c.args.kernel.now) c.args.hooked.now c.each.place c.each.places.items c.each.invariant c.is_stray-stray.result c.add_place.new.places.items
    c.is_stray-stray.ensures c.in_ok-add_place.ensures
