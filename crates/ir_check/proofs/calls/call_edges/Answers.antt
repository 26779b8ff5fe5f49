use Rattle.std.proofs.Common.{◌∙◌}
use Rattle.ir_ast.specs.ProgramView.{view_entries, view_function}
use Rattle.ir_check.specs.Graphs.{called_by}
use Rattle.ir_type.proofs.NameWalks.{entry_viewed}
use Rattle.ir_check.proofs.NamedGraph.{graph_more}
use Rattle.ir_check.proofs.CallOrders.{among_viewed}
use Rattle.ir_check.proofs.calls.call_edges.Goals as goal

pub loop-place-preserved : goal.loop-place-preserved
loop-place-preserved c =
    let e = entry_viewed view_function c.args.kernel.now.functions c.loop-place.place c.at-function.result.now c.at-function.ensures in
    graph_more called_by (view_entries view_function c.args.kernel.now.functions) c.loop-place.place e.0 (view_function c.at-function.result.now)
    c.in_ok-calls_of.field-0.items c.loop-place.graph c.push.new.self e.1
    (c.in_ok-calls_of.ensures ∙ among_viewed c.args.kernel.now.functions (called_by (view_function c.at-function.result.now)))
    c.loop-place.invariant c.in_ok-push.ensures.added
