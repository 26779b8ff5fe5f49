use Rattle.hk_inst_goals.specs.Narrow.{AreNarrow}
use Rattle.hk_inst_goals.proofs.build.add_all.Given as goal

abbrev pub invariant-loop-word : goal.invariant-loop-word
invariant-loop-word l = AreNarrow l.initial.terms → AreNarrow l.terms
