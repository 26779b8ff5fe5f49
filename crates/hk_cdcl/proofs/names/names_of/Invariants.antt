use Rattle.std.proofs.Common.{◌≡◌, map, take}
use Rattle.hk_cdcl.specs.Names.{named}
use Rattle.hk_cdcl.proofs.names.names_of.Given as goal

abbrev pub invariant-loop-id : goal.invariant-loop-id
invariant-loop-id l = l.named.items ≡ map (named l.names) (take l.id-index l.ids)
