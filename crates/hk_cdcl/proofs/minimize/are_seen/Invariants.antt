use Rattle.std.proofs.Common.{◌≡◌, true, take}
use Rattle.std.specs.List.{list_all}
use Rattle.hk_cdcl.specs.Analysis.{seen_at}
use Rattle.hk_cdcl.proofs.minimize.are_seen.Given as goal

abbrev pub invariant-loop-lit : goal.invariant-loop-lit
invariant-loop-lit l = list_all (seen_at l.seen) (take l.lit-index l.clause) ≡ true
