use Rattle.std.proofs.Common.{sym, subst, ap, ◌∙◌, length, ◌<◌}
use Rattle.std.specs.Prelude.{bytes_eq}
use Rattle.std.specs.List.{IsDistinct}
use Rattle.std.proofs.lemmas.List.{length-map}
use Rattle.hk_graph.specs.Walks.{AreWithin}
use Rattle.ir_ast.specs.ProgramView.{view_function, view_module}
use Rattle.ir_type.proofs.Views.{names_viewed}
use Rattle.hk_flow.specs.Sums.{told}
use Rattle.ir_check.specs.Graphs.{called_by}
use Rattle.ir_check.proofs.NamedGraph.{within, graph_length}
use Rattle.ir_check.proofs.CallOrders.{order_says_calls}
use Rattle.ir_check.proofs.LengthLaws.{says_length}
use Rattle.ir_check.proofs.calls.calls_in.Goals as goal

pub sort-requires-clause-within : goal.sort-requires-clause-within
sort-requires-clause-within c = subst AreWithin (sym c.in_ok-graph.ensures.graph) (within called_by (view_module c.args.kernel.now).functions)

pub sums-requires-clause-within : goal.sums-requires-clause-within
sums-requires-clause-within c = subst AreWithin (sym c.in_ok-graph.ensures.graph) (within called_by (view_module c.args.kernel.now).functions)

pub returns-clause-cyclic : goal.returns-clause-cyclic
returns-clause-cyclic c = λ p l.
    order_says_calls (view_module c.args.kernel.now)
    (subst (IsDistinct bytes_eq) (sym (names_viewed view_function c.args.kernel.now.functions)) c.call_edges.ensures.distinct)
    c.in_ok-graph.graph c.in_ok-order.order.nodes.items c.in_ok-order.order.cyclic.items c.in_ok-graph.ensures.graph c.in_ok-order.ensures p
    (subst (λ n. p < n) (sym (length-map c.args.kernel.now.functions (λ e. (e.0, view_function e.1)))) l)

pub returns-clause-lengths : goal.returns-clause-lengths
returns-clause-lengths c = λ p l.
    let below : p < length (view_module c.args.kernel.now).functions = subst (λ n. p < n) (sym (length-map c.args.kernel.now.functions (λ e. (e.0, view_function e.1)))) l in
    let node : p < length c.in_ok-graph.graph = subst (λ n. p < n) (sym (ap length c.in_ok-graph.ensures.graph ∙ graph_length called_by (view_module c.args.kernel.now).functions)) below in
    says_length (view_module c.args.kernel.now) (subst (IsDistinct bytes_eq) (sym (names_viewed view_function c.args.kernel.now.functions)) c.call_edges.ensures.distinct) p below
    c.in_ok-graph.graph c.deref.result.now (told c.in_ok-lengths.lengths.items p) c.in_ok-graph.ensures.graph (c.deref.ensures.value ∙ c.in_ok-own.ensures)
    (c.in_ok-lengths.ensures.each p node)
