use Rattle.std.proofs.Common.{ℕ, All}
use Rattle.hk_cnf.specs.Literal.{IsWithin}
use Rattle.hk_settle_tests.proofs.product.literals.Given as goal

abbrev pub invariant-loop-lit : goal.invariant-loop-lit
invariant-loop-lit l = (n : ℕ) → All (IsWithin n) l.word → All (IsWithin n) l.lits.items
