-- Calls by places, and what an order of them says of the functions by names.
use Rattle.std.proofs.Common.{◌≡◌, ℕ, ◌<◌, Bool, true, false, List, length, sym, ◌∙◌, ap, subst}
use Rattle.std.specs.Prelude.{bytes_eq}
use Rattle.std.specs.List.{IsDistinct}
use Rattle.ir_ast.specs.Program.{ModuleView}
use Rattle.ir_ast.specs.Table.{names_of}
use Rattle.ir_ast.specs.ProgramView.{view_entries, view_function}
use Rattle.ir_ast.specs.declared.instr.Function.{Function}
use Rattle.hk_graph.specs.Sorted.{IsAnswer, IsOrder, flag_of}
use Rattle.ir_type.specs.Cycles.{places_of}
use Rattle.ir_type.proofs.Views.{names_viewed}
use Rattle.ir_check.specs.Paths.{HasCall}
use Rattle.ir_check.specs.Graphs.{NameLeads, places_among, called_by, call_graph, name_of_entry, SaysCalls}
use Rattle.ir_check.proofs.EdgeLaws.{cycle_by, call_to, call_from}
use Rattle.ir_check.proofs.NamedGraph.{graph_length, cycle_names, cycle_places}

pub among_viewed : (functions : List (List ℕ × Function)) (names : List (List ℕ))
    → places_among (names_of functions) names ≡ places_of (view_entries view_function functions) names
among_viewed functions names = ap (λ index. places_among index names) (sym (names_viewed view_function functions))

module _ (m : ModuleView) (distinct : IsDistinct bytes_eq (names_of m.functions)) where
  says_calls : (flag : Bool) (p : ℕ) → p < length m.functions → IsAnswer (call_graph m) flag p → SaysCalls m flag p
  says_calls true p l h =
      cycle_by (NameLeads called_by m.functions) (HasCall m) (call_from m) (name_of_entry m.functions p) (cycle_names called_by m.functions distinct p l h)
  says_calls false p l h =
      λ cycle. h (cycle_places called_by m.functions distinct p l (cycle_by (HasCall m) (NameLeads called_by m.functions) (call_to m) (name_of_entry m.functions p) cycle))

  pub order_says_calls : (graph : List (List ℕ)) (nodes : List ℕ) (cyclic : List Bool) → graph ≡ call_graph m → IsOrder graph nodes cyclic
      → (p : ℕ) → p < length m.functions → SaysCalls m (flag_of cyclic p) p
  order_says_calls graph nodes cyclic is o p l =
      let n : p < length graph = subst (λ n. p < n) (sym (ap length is ∙ graph_length called_by m.functions)) l in
      says_calls (flag_of cyclic p) p l (subst (λ g. IsAnswer g (flag_of cyclic p) p) is (o.answers p n))
