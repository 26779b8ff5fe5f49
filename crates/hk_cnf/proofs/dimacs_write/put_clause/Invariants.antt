use Rattle.std.proofs.Common.{◌≡◌, ◌++◌, take}
use Rattle.std.specs.List.{flat_map}
use Rattle.hk_cnf.specs.DimacsText.{literal_text}
use Rattle.hk_cnf.proofs.dimacs_write.put_clause.Given as goal

abbrev pub invariant-loop-lit : goal.invariant-loop-lit
invariant-loop-lit l = l.text.items ≡ l.initial.text.items ++ flat_map literal_text (take l.lit-index l.clause)
