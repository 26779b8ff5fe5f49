use Rattle.std.proofs.Common.{◌≡◌, take}
use Rattle.hk_term.specs.Meaning.{reading_of}
use Rattle.hk_symmem.specs.Origins.{start_memory}
use Rattle.hk_cells.specs.Parts.{divided}
use Rattle.hk_cells.proofs.filling.objects_by.Given as goal

abbrev pub invariant-loop-object : goal.invariant-loop-object
invariant-loop-object l = l.objects.items ≡ take l.object (start_memory (divided l.reads l.parts) (reading_of l.v).entry)
