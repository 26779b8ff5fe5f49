use Rattle.std.proofs.Common.{◌≡◌, ◌++◌, drop, map}
use Rattle.ir_ast.specs.ProgramView.{view_entries, view_global}
use Rattle.ir_layout.specs.Facts.{look_in}
use Rattle.ir_layout.specs.Writing.{object_by}
use Rattle.ir_layout.proofs.object.objects_of.Given as goal

abbrev pub invariant-loop-place : goal.invariant-loop-place
invariant-loop-place l =
    l.objects.items ++ map (λ g. object_by (look_in l.types l.facts) g.1) (drop l.place (view_entries view_global l.globals))
    ≡ map (λ g. object_by (look_in l.types l.facts) g.1) (view_entries view_global l.globals)
