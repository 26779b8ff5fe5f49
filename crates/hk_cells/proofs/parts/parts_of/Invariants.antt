use Rattle.std.proofs.Common.{◌≡◌, ◌++◌, drop}
use Rattle.hk_cells.specs.Parts.{parts_by}
use Rattle.hk_cells.proofs.parts.parts_of.Given as goal

abbrev pub invariant-loop-object : goal.invariant-loop-object
invariant-loop-object l = l.parts.items ++ parts_by (drop l.object l.layout.objects) (drop l.object l.cells) ≡ parts_by l.layout.objects l.cells
