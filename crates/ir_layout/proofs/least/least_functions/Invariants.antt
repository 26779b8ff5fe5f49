use Rattle.std.proofs.Common.{◌≡◌, drop}
use Rattle.ir_ast.specs.ProgramView.{view_entries, view_function}
use Rattle.ir_layout.specs.Facts.{look_in}
use Rattle.ir_layout.specs.Least.{least_functions}
use Rattle.ir_layout.proofs.least.least_functions.Given as goal

abbrev pub invariant-loop-place : goal.invariant-loop-place
invariant-loop-place l =
    least_functions (look_in l.types l.facts) l.found (drop l.place (view_entries view_function l.functions))
    ≡ least_functions (look_in l.types l.facts) l.fn.least (view_entries view_function l.functions)
