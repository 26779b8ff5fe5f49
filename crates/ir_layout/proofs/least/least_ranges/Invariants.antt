use Rattle.std.proofs.Common.{◌≡◌, drop}
use Rattle.ir_ast.specs.ProgramView.{view_entries, view_range}
use Rattle.ir_layout.specs.Facts.{look_in}
use Rattle.ir_layout.specs.Least.{least_ranges}
use Rattle.ir_layout.proofs.least.least_ranges.Given as goal

abbrev pub invariant-loop-place : goal.invariant-loop-place
invariant-loop-place l =
    least_ranges (look_in l.types l.facts) l.found (drop l.place (view_entries view_range l.ranges))
    ≡ least_ranges (look_in l.types l.facts) l.fn.least (view_entries view_range l.ranges)
