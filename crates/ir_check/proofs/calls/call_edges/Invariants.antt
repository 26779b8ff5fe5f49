use Rattle.std.proofs.Common.{◌≡◌, take}
use Rattle.ir_ast.specs.ProgramView.{view_module}
use Rattle.ir_check.specs.Graphs.{call_graph}
use Rattle.ir_check.proofs.calls.call_edges.Given as goal

abbrev pub invariant-loop-place : goal.invariant-loop-place
invariant-loop-place l = l.graph ≡ take l.place (call_graph (view_module l.kernel))
