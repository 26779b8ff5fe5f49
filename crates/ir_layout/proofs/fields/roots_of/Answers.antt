use Rattle.std.proofs.Common.{◌≡◌, ℕ, List, length, ap, sym, subst, ◌∙◌, arith}
use Rattle.std.specs.Prelude.{bytes_eq, slice_index}
use Rattle.std.specs.List.{IsDistinct}
use Rattle.ir_ast.specs.View.{view_type}
use Rattle.ir_ast.specs.Program.{TypeView}
use Rattle.ir_ast.specs.ProgramView.{view_entries, view_type_entry}
use Rattle.hk_graph.specs.Sorted.{IsOrder}
use Rattle.ir_type.specs.Cycles.{graph_of}
use Rattle.ir_type.proofs.Places.{same_second}
use Rattle.ir_type.proofs.NameWalks.{entry_viewed}
use Rattle.ir_type.proofs.Views.{names_viewed}
use Rattle.ir_layout.specs.Offsets.{AreRooted, root_by}
use Rattle.ir_layout.proofs.Roots.{root_viewed, root_more, all_rooted}
use Rattle.ir_layout.proofs.fields.roots_of.Goals as goal

pub loop-node-preserved : goal.loop-node-preserved
loop-node-preserved c =
    let e = entry_viewed view_type_entry c.args.types.now (slice_index c.deref-node-items.result.now c.loop-node.node-index) c.at.result.now c.at.ensures in
    root_more (view_entries view_type_entry c.args.types.now)
    (subst (IsDistinct bytes_eq) (sym (names_viewed view_type_entry c.args.types.now)) c.len-count.ensures.distinct)
    c.deref-node-items.result.now c.args.order.now.cyclic.items
    (subst (λ ns. IsOrder (graph_of (view_entries view_type_entry c.args.types.now)) ns c.args.order.now.cyclic.items) (sym c.deref-node-items.ensures.value) c.requires.order.order)
    c.requires.order.says
    c.loop-node.node-index c.loop-node.roots.items c.root_of_type.result c.loop-node.invariant c.loop-node-test.true
    (λ f x there.
    c.root_of_type.ensures
    ∙ ap (λ rs. root_by c.args.types.now rs (slice_index c.deref-node-items.result.now c.loop-node.node-index) (view_type c.at.result.now.over)) c.deref.ensures.value
    ∙ root_viewed view_type_entry c.args.types.now c.loop-node.roots.items (slice_index c.deref-node-items.result.now c.loop-node.node-index) (view_type c.at.result.now.over)
    ∙ ap (λ v. root_by (view_entries view_type_entry c.args.types.now) c.loop-node.roots.items (slice_index c.deref-node-items.result.now c.loop-node.node-index) v.over)
    (same_second {A = List ℕ} {B = TypeView} (e.0, view_type_entry c.at.result.now) (x, f) (sym e.1 ∙ there)))

pub returns : goal.returns
returns c =
    let end : c.loop-node.node-index ≡ length c.deref-node-items.result.now = omega (arith, c.loop-node-test.false, c.loop-node.auto.node-index-end) in
    all_rooted (view_entries view_type_entry c.args.types.now)
    (subst (IsDistinct bytes_eq) (sym (names_viewed view_type_entry c.args.types.now)) c.len-count.ensures.distinct)
    c.deref-node-items.result.now c.args.order.now.cyclic.items
    (subst (λ ns. IsOrder (graph_of (view_entries view_type_entry c.args.types.now)) ns c.args.order.now.cyclic.items) (sym c.deref-node-items.ensures.value) c.requires.order.order)
    c.requires.order.says
    c.loop-node.roots.items
    (subst (λ k. AreRooted (view_entries view_type_entry c.args.types.now) c.deref-node-items.result.now k c.loop-node.roots.items) end c.loop-node.invariant)
