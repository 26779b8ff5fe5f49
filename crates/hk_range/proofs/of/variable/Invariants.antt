use Rattle.std.proofs.Common.{ℕ, ◌%◌, ◌^◌}
use Rattle.hk_term.specs.Meaning.{Reading}
use Rattle.hk_range.specs.Ranges.{InRange, AreBelow}
use Rattle.hk_range.proofs.of.variable.Given as goal

abbrev pub invariant-loop-b : goal.invariant-loop-b
invariant-loop-b l = (v : Reading) (w : ℕ) → AreBelow l.bound v → InRange l.fn.any (v.var l.id % 2 ^ w) → InRange l.range (v.var l.id % 2 ^ w)
