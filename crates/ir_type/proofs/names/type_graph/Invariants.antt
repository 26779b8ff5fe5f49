use Rattle.std.proofs.Common.{◌≡◌, take}
use Rattle.ir_ast.specs.ProgramView.{view_entries, view_type_entry}
use Rattle.ir_type.specs.Cycles.{graph_of}
use Rattle.ir_type.proofs.names.type_graph.Given as goal

abbrev pub invariant-loop-place : goal.invariant-loop-place
invariant-loop-place l = l.graph ≡ take l.place (graph_of (view_entries view_type_entry l.types))
