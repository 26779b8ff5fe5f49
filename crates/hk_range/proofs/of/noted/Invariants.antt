use Rattle.hk_term.specs.Meaning.{Reading, value}
use Rattle.hk_range.specs.Ranges.{InRange, AreTrue}
use Rattle.hk_range.proofs.of.noted.Given as goal

abbrev pub invariant-loop-fact : goal.invariant-loop-fact
invariant-loop-fact l = (v : Reading) → AreTrue l.t l.facts v → InRange l.range (value l.t l.a v)
