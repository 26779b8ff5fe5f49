use Rattle.std.proofs.Common.{◌≡◌, ◌≤◌, drop}
use Rattle.ir_ast.specs.ProgramView.{view_entries, view_global}
use Rattle.ir_layout.specs.Facts.{look_in}
use Rattle.ir_layout.specs.Least.{least_globals}
use Rattle.ir_layout.proofs.least.least_globals.Given as goal

abbrev pub invariant-loop-place : goal.invariant-loop-place
invariant-loop-place l = record {
  few : l.total ≤ 4194305;
  left : least_globals (look_in l.types l.facts) l.found l.total (drop l.place (view_entries view_global l.globals)) ≡ least_globals (look_in l.types l.facts) l.fn.least 0 (view_entries view_global l.globals);
}
