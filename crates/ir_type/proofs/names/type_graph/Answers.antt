use Rattle.std.proofs.Common.{◌++◌, ◌∙◌, ap}
use Rattle.ir_ast.specs.View.{view_type}
use Rattle.ir_type.specs.Cycles.{places_in}
use Rattle.ir_ast.specs.ProgramView.{view_entries, view_type_entry}
use Rattle.ir_type.proofs.NameWalks.{entry_viewed, graph_more}
use Rattle.ir_type.proofs.names.type_graph.Goals as goal

pub loop-place-preserved : goal.loop-place-preserved
loop-place-preserved c =
    let e = entry_viewed view_type_entry c.args.types.now c.loop-place.place c.at.result.now c.at.ensures in
    graph_more (view_entries view_type_entry c.args.types.now) c.loop-place.place e.0 (view_type_entry c.at.result.now) c.add_places.new.places.items c.loop-place.graph c.push.new.self e.1
    (c.in_ok-add_places.ensures ∙ ap (λ xs. xs ++ places_in (view_entries view_type_entry c.args.types.now) (view_type c.at.result.now.over)) c.new-places.ensures.items)
    c.loop-place.invariant c.in_ok-push.ensures.added
