use Rattle.std.proofs.Common.{◌≡◌, ◌++◌, length, take}
use Rattle.std.specs.List.{flat_map}
use Rattle.hk_cnf.specs.DimacsText.{header_text, clause_text}
use Rattle.hk_cnf.proofs.dimacs_write.write_dimacs.Given as goal

abbrev pub invariant-loop-i : goal.invariant-loop-i
invariant-loop-i l = l.text.items ≡ header_text l.list.vars (length l.list.clauses) ++ flat_map clause_text (take l.i l.list.clauses)
