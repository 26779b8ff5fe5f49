use Rattle.ir_ast.specs.ProgramView.{view_entries, view_type_entry}
use Rattle.ir_type.proofs.NameWalks.{entry_viewed}
use Rattle.ir_layout.specs.Facts.{look_in}
use Rattle.ir_layout.specs.Offsets.{offsets_of}
use Rattle.ir_layout.proofs.Turns.{map_more}
use Rattle.ir_layout.proofs.fields.fields_of.Goals as goal

pub loop-place-preserved : goal.loop-place-preserved
loop-place-preserved c =
    let e = entry_viewed view_type_entry c.args.types.now c.loop-place.place c.at.result.now c.at.ensures in
    map_more (λ e. offsets_of (look_in c.args.types.now c.args.facts.now) e.1.over) (view_entries view_type_entry c.args.types.now) c.loop-place.place (e.0, view_type_entry c.at.result.now)
    c.loop-place.fields.items c.push.new.self.items _ _ e.1 c.in_ok-push.ensures.items c.in_ok-offsets_of.ensures c.loop-place.invariant
