use Rattle.std.proofs.Common.{◌≡◌, ◌<◌, length, sym, subst, arith}
use Rattle.std.specs.Prelude.{bytes_eq}
use Rattle.std.specs.List.{IsDistinct}
use Rattle.std.proofs.lemmas.List.{length-map}
use Rattle.ir_ast.specs.ProgramView.{view_entries, view_type_entry}
use Rattle.hk_graph.specs.Sorted.{IsOrder}
use Rattle.ir_type.specs.Whole.{whole_by}
use Rattle.ir_type.specs.Cycles.{graph_of}
use Rattle.ir_type.proofs.Views.{names_viewed}
use Rattle.ir_whole.specs.Heads.{types_by, Stands}
use Rattle.ir_whole.specs.Numbers.{node_whole, IsFilled}
use Rattle.ir_whole.proofs.NameNumbers.{fill, filled, looks_moved, grown_on}
use Rattle.ir_whole.proofs.numbers.numbers_of.Goals as goal

pub loop-node-preserved : goal.loop-node-preserved
loop-node-preserved c =
    fill (view_entries view_type_entry c.args.types.now)
    (subst (IsDistinct bytes_eq) (sym (names_viewed view_type_entry c.args.types.now)) c.len.ensures.distinct)
    c.deref-node-items.result.now c.in_ok-order.order.cyclic.items
    (subst (λ ns. IsOrder (graph_of (view_entries view_type_entry c.args.types.now)) ns c.in_ok-order.order.cyclic.items) (sym c.deref-node-items.ensures.value) c.in_ok-order.ensures.order)
    (λ p l. c.in_ok-order.ensures.cyclic p (subst (λ n. p < n) (length-map c.args.types.now (λ e. (e.0, view_type_entry e.1))) l))
    c.loop-node.node-index c.loop-node.heads c.number_at.new.heads c.loop-node.named.items c.in_ok-number.number c.loop-node.invariant c.loop-node-test.true
    (grown_on c.loop-node.heads c.number_at.new.heads c.in_ok-number.ensures.grows) c.in_ok-number.ensures.within
    (λ s looks e x there.
    subst (λ b. Stands (types_by c.number_at.new.heads) c.in_ok-number.number (node_whole b (whole_by s e.over))) c.is_cyclic.ensures
    (c.in_ok-number.ensures.number s
    (looks_moved view_type_entry c.args.types.now c.loop-node.named.items c.deref.result.now (types_by c.loop-node.heads) s c.deref.ensures.value looks) e x there))

pub returns : goal.returns
returns c =
    let end : c.loop-node.node-index ≡ length c.deref-node-items.result.now = omega (arith, c.loop-node-test.false, c.loop-node.auto.node-index-end) in
    filled (view_entries view_type_entry c.args.types.now)
    (subst (IsDistinct bytes_eq) (sym (names_viewed view_type_entry c.args.types.now)) c.len.ensures.distinct)
    c.deref-node-items.result.now c.in_ok-order.order.cyclic.items
    (subst (λ ns. IsOrder (graph_of (view_entries view_type_entry c.args.types.now)) ns c.in_ok-order.order.cyclic.items) (sym c.deref-node-items.ensures.value) c.in_ok-order.ensures.order)
    (λ p l. c.in_ok-order.ensures.cyclic p (subst (λ n. p < n) (length-map c.args.types.now (λ e. (e.0, view_type_entry e.1))) l))
    c.loop-node.heads c.loop-node.named.items
    (subst (λ k. IsFilled (view_entries view_type_entry c.args.types.now) c.deref-node-items.result.now k c.loop-node.heads c.loop-node.named.items) end c.loop-node.invariant)
