use Rattle.std.proofs.Common.{sym, subst}
use Rattle.hk_graph.specs.Walks.{AreWithin}
use Rattle.ir_ast.specs.ProgramView.{view_module, view_function}
use Rattle.ir_check.specs.Graphs.{named_blocks, block_targets}
use Rattle.ir_check.specs.Checked.{IsForward}
use Rattle.ir_check.proofs.NamedGraph.{within}
use Rattle.ir_check.proofs.FunctionLaws.{straight_forward, straight_falls, falls_looping, noted_body, function_there, function_at}
use Rattle.ir_check.proofs.function.function_check.Goals as goal

pub sort-requires-clause-within : goal.sort-requires-clause-within
sort-requires-clause-within c = subst AreWithin (sym c.in_ok-edges.ensures.graph) (within block_targets (named_blocks (view_function c.args.function.now)))

pub straight_fault-requires-clause-straight : goal.straight_fault-requires-clause-straight
straight_fault-requires-clause-straight c =
    straight_falls (view_function c.args.function.now) c.in_ok-edges.edges c.in_ok-edges.ensures.graph c.in_ok-edges.ensures.distinct c.in_ok-order.order.nodes.items c.in_ok-forward.field-0.items
    c.in_ok-order.order.cyclic.items c.in_ok-order.ensures c.if-has_order.ensures.0 c.if-has_order.ensures.1 (c.in_ok-forward.ensures.onward c.in_ok-edges.edges c.in_ok-order.ensures c.if-has_order.ensures.0)

pub straight_fault-requires-clause-noted : goal.straight_fault-requires-clause-noted
straight_fault-requires-clause-noted c =
    noted_body (view_module c.args.kernel.now) (view_function c.args.function.now) c.requires.shaped
    (function_there (view_module c.args.kernel.now) c.args.place c.args.function.now.name (view_function c.args.function.now) c.requires.stands)

pub returns-then-has_order-clause-least : goal.returns-then-has_order-clause-least
returns-then-has_order-clause-least c =
    function_at (view_module c.args.kernel.now) c.args.place c.args.function.now.name (view_function c.args.function.now) c.in_ok-fault.fault c.requires.stands c.in_ok-fault.ensures.least

pub returns-then-has_order-clause-order : goal.returns-then-has_order-clause-order
returns-then-has_order-clause-order c = λ h.
    subst (IsForward (view_function c.args.function.now)) (sym c.new-order_of_blocks.ensures)
    (straight_forward (view_function c.args.function.now) c.in_ok-edges.edges c.in_ok-edges.ensures.graph c.in_ok-edges.ensures.distinct c.in_ok-order.order.nodes.items c.in_ok-forward.field-0.items
    c.in_ok-order.order.cyclic.items c.in_ok-order.ensures c.if-has_order.ensures.0 c.if-has_order.ensures.1 (c.in_ok-forward.ensures.onward c.in_ok-edges.edges c.in_ok-order.ensures c.if-has_order.ensures.0))

pub looping_fault-requires-clause-looping : goal.looping_fault-requires-clause-looping
looping_fault-requires-clause-looping c = falls_looping (view_function c.args.function.now) c.in_ok-edges.edges c.in_ok-edges.ensures.graph c.in_ok-edges.ensures.distinct c.if-has_order.ensures

pub returns-clause-least : goal.returns-clause-least
returns-clause-least c =
    function_at (view_module c.args.kernel.now) c.args.place c.args.function.now.name (view_function c.args.function.now) c.in_ok-fault-2.fault c.requires.stands c.in_ok-fault-2.ensures.least

pub returns-clause-order : goal.returns-clause-order
returns-clause-order c = λ h.
    absurd (h (falls_looping (view_function c.args.function.now) c.in_ok-edges.edges c.in_ok-edges.ensures.graph c.in_ok-edges.ensures.distinct c.if-has_order.ensures))
