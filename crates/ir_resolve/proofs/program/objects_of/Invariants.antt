use Rattle.std.proofs.Common.{◌≡◌, ◌++◌, drop}
use Rattle.ir_ast.specs.ProgramView.{view_module}
use Rattle.ir_resolve.specs.Resolved.{program_of}
use Rattle.ir_resolve.proofs.program.objects_of.Given as goal

abbrev pub invariant-loop-place : goal.invariant-loop-place
invariant-loop-place l = l.objects ++ drop l.place (program_of (view_module l.kernel)).objects ≡ (program_of (view_module l.kernel)).objects
