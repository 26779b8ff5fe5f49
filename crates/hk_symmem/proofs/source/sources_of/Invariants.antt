use Rattle.std.proofs.Common.{take}
use Rattle.std.specs.Prelude.{map}
use Rattle.hk_symmem.specs.Origins.{AreOriginsOf}
use Rattle.hk_symmem.specs.Sources.{origin_of}
use Rattle.hk_symmem.proofs.source.sources_of.Given as goal

abbrev pub invariant-loop-object : goal.invariant-loop-object
invariant-loop-object l = AreOriginsOf (take l.object l.layout.objects) (map origin_of l.sources.items)
