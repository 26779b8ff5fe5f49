use Rattle.std.proofs.Common.{◌≡◌, take}
use Rattle.ir_ast.specs.ProgramView.{view_entries, view_function}
use Rattle.ir_check.specs.Graphs.{own_of}
use Rattle.ir_check.proofs.calls.own_lengths.Given as goal

abbrev pub invariant-loop-place : goal.invariant-loop-place
invariant-loop-place l = l.own.items ≡ take l.place (own_of (view_entries view_function l.functions))
