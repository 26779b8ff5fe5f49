use Rattle.std.proofs.Common.{sym, subst, length, ℕ, ◌<◌}
use Rattle.std.specs.Prelude.{bytes_eq}
use Rattle.std.specs.List.{IsDistinct}
use Rattle.std.proofs.lemmas.Result.{IfOk-weaker}
use Rattle.std.proofs.lemmas.List.{length-map}
use Rattle.hk_graph.specs.Walks.{AreWithin}
use Rattle.hk_graph.specs.Sorted.{IsOrder, flag_of}
use Rattle.ir_ast.specs.ProgramView.{view_entries, view_type_entry}
use Rattle.ir_type.specs.Cycles.{SaysCyclic}
use Rattle.ir_type.proofs.Views.{names_viewed}
use Rattle.ir_type.proofs.NameWalks.{within, order_says}
use Rattle.ir_type.proofs.names.type_order.Goals as goal

pub sort-requires-clause-within : goal.sort-requires-clause-within
sort-requires-clause-within c = subst AreWithin (sym c.in_ok-graph.ensures.graph) (within (view_entries view_type_entry c.args.types.now))

pub returns-clause-cyclic : goal.returns-clause-cyclic
returns-clause-cyclic c = IfOk-weaker c.sort.result
    (λ o. IsOrder c.in_ok-graph.graph o.nodes.items o.cyclic.items)
    (λ o. (p : ℕ) → p < length c.args.types.now → SaysCyclic (view_entries view_type_entry c.args.types.now) (flag_of o.cyclic.items p) p)
    (λ o h p l. order_says (view_entries view_type_entry c.args.types.now)
    (subst (IsDistinct bytes_eq) (sym (names_viewed view_type_entry c.args.types.now)) c.type_graph.ensures.distinct)
    c.in_ok-graph.graph o.nodes.items o.cyclic.items c.in_ok-graph.ensures.graph h p
    (subst (λ n. p < n) (sym (length-map c.args.types.now (λ e. (e.0, view_type_entry e.1)))) l))
    c.sort.ensures
