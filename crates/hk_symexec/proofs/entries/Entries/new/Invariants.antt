use Rattle.std.proofs.Common.{◌≡◌, replicate}
use Rattle.hk_symexec.proofs.entries.Entries.new.Given as goal

abbrev pub invariant-loop : goal.invariant-loop
invariant-loop l = l.terms.items ≡ replicate l.counter l.fn.term
