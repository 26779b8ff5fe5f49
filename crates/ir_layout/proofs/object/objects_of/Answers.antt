use Rattle.ir_ast.specs.ProgramView.{view_entries, view_global}
use Rattle.ir_type.proofs.NameWalks.{entry_viewed}
use Rattle.ir_layout.specs.Facts.{look_in}
use Rattle.ir_layout.specs.Writing.{object_by}
use Rattle.ir_layout.proofs.Turns.{map_more}
use Rattle.ir_layout.proofs.object.objects_of.Goals as goal

pub loop-place-preserved : goal.loop-place-preserved
loop-place-preserved c =
    let e = entry_viewed view_global c.args.globals.now c.loop-place.place c.at.result.now c.at.ensures in
    map_more (λ g. object_by (look_in c.args.types.now c.args.facts.now) g.1) (view_entries view_global c.args.globals.now) c.loop-place.place (e.0, view_global c.at.result.now)
    c.loop-place.objects.items c.push.new.self.items _ _ e.1 c.in_ok-push.ensures.items c.in_ok-object_of.ensures c.loop-place.invariant
