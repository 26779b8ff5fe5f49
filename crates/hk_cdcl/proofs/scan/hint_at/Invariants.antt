use Rattle.std.proofs.Common.{◌≡◌, take}
use Rattle.hk_cnf.specs.Literal.{has}
use Rattle.hk_cnf.specs.Hint.{hint_of}
use Rattle.hk_cdcl.proofs.scan.hint_at.Given as goal

abbrev pub invariant-loop-lit : goal.invariant-loop-lit
invariant-loop-lit l = l.hint ≡ hint_of (has l.trail.lits) (take l.lit-index l.clause)
