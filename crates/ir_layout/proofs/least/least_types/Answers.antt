use Rattle.std.proofs.Common.{◌+◌, sym, ap, drop}
use Rattle.ir_ast.specs.ProgramView.{view_entries, view_type_entry}
use Rattle.ir_type.proofs.NameWalks.{entry_viewed}
use Rattle.ir_layout.specs.Facts.{look_in}
use Rattle.ir_layout.specs.Least.{least_types}
use Rattle.ir_layout.proofs.Turns.{turn}
use Rattle.ir_layout.proofs.least.least_types.Goals as goal

pub loop-place-preserved : goal.loop-place-preserved
loop-place-preserved c =
    let e = entry_viewed view_type_entry c.args.types.now c.loop-place.place c.at.result.now c.at.ensures in
    turn (least_types (look_in c.args.types.now c.args.facts.now)) c.loop-place.found c.least_type-found.result (view_entries view_type_entry c.args.types.now) c.loop-place.place
    (e.0, view_type_entry c.at.result.now) _ e.1 c.loop-place.invariant
    (ap (λ f. least_types (look_in c.args.types.now c.args.facts.now) f (drop (c.loop-place.place + 1) (view_entries view_type_entry c.args.types.now))) (sym c.least_type-found.ensures))
