use Rattle.std.proofs.Common.{rules, ◌≡◌, length, ap, sym, subst, ◌∙◌, arith}
use Rattle.std.specs.Prelude.{replicate, bytes_eq, slice_index}
use Rattle.std.specs.List.{IsDistinct}
use Rattle.std.proofs.lemmas.List.{length-map}
use Rattle.ir_ast.specs.ProgramView.{view_entries, view_type_entry}
use Rattle.hk_graph.specs.Sorted.{IsOrder, flag_of}
use Rattle.ir_type.specs.Cycles.{graph_of}
use Rattle.ir_type.proofs.Views.{names_viewed, place_viewed}
use Rattle.ir_layout.specs.Facts.{IsFilled, fact_at, fact_by, node_fact, look_in}
use Rattle.ir_layout.proofs.FactSteps.{begins, fill, filled}
use Rattle.ir_layout.proofs.types.facts_of.Goals as goal

pub loop-node-init : goal.loop-node-init
loop-node-init c =
    let is : c.in_ok-facts.facts.items ≡ replicate c.len-count.result c.of_unknown.result = search rules in
    let count : c.len-count.result ≡ length (view_entries view_type_entry c.args.types.now) =
    c.len-count.ensures.count ∙ sym (length-map c.args.types.now (λ e. (e.0, view_type_entry e.1))) in
    subst (IsFilled (view_entries view_type_entry c.args.types.now) c.deref-node-items.result.now 0)
    (sym (is ∙ ap (replicate c.len-count.result) c.of_unknown.ensures.fact))
    (begins (view_entries view_type_entry c.args.types.now) c.deref-node-items.result.now c.len-count.result count)

pub loop-node-preserved : goal.loop-node-preserved
loop-node-preserved c =
    fill (view_entries view_type_entry c.args.types.now)
    (subst (IsDistinct bytes_eq) (sym (names_viewed view_type_entry c.args.types.now)) c.len-count.ensures.distinct)
    c.deref-node-items.result.now c.args.order.now.cyclic.items
    (subst (λ ns. IsOrder (graph_of (view_entries view_type_entry c.args.types.now)) ns c.args.order.now.cyclic.items) (sym c.deref-node-items.ensures.value) c.requires.order.order)
    c.requires.order.says
    c.loop-node.node-index c.loop-node.facts.items (look_in c.args.types.now c.loop-node.facts.items) c.fact_at.result c.loop-node.invariant c.loop-node-test.true
    (λ x. ap (fact_at c.loop-node.facts.items) (sym (place_viewed view_type_entry c.args.types.now x)))
    c.fact_at.ensures.kept
    (λ e x there. c.fact_at.ensures.fact e x there
    ∙ ap (λ b. node_fact b e.over (fact_by (look_in c.args.types.now c.deref.result.now) e.over)) c.is_cyclic.ensures
    ∙ ap (λ fs. node_fact (flag_of c.args.order.now.cyclic.items (slice_index c.deref-node-items.result.now c.loop-node.node-index)) e.over (fact_by (look_in c.args.types.now fs) e.over))
    c.deref.ensures.value)

pub returns : goal.returns
returns c =
    let end : c.loop-node.node-index ≡ length c.deref-node-items.result.now = omega (arith, c.loop-node-test.false, c.loop-node.auto.node-index-end) in
    filled (view_entries view_type_entry c.args.types.now)
    (subst (IsDistinct bytes_eq) (sym (names_viewed view_type_entry c.args.types.now)) c.len-count.ensures.distinct)
    c.deref-node-items.result.now c.args.order.now.cyclic.items
    (subst (λ ns. IsOrder (graph_of (view_entries view_type_entry c.args.types.now)) ns c.args.order.now.cyclic.items) (sym c.deref-node-items.ensures.value) c.requires.order.order)
    c.requires.order.says
    c.loop-node.facts.items
    (subst (λ k. IsFilled (view_entries view_type_entry c.args.types.now) c.deref-node-items.result.now k c.loop-node.facts.items) end c.loop-node.invariant)
