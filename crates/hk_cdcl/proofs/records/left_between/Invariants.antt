use Rattle.std.proofs.Common.{map}
use Rattle.hk_cdcl.specs.Looking.{AreFalseBetween}
use Rattle.hk_cdcl.specs.Records.{lit_of}
use Rattle.hk_cdcl.proofs.records.left_between.Given as goal

abbrev pub invariant-loop-place : goal.invariant-loop-place
invariant-loop-place l = AreFalseBetween l.trail.lits (map lit_of l.codes) (lit_of l.other) l.from l.place
