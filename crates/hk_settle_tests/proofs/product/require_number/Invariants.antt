use Rattle.std.proofs.Common.{◌≡◌, All}
use Rattle.hk_cnf.specs.Literal.{IsWithin}
use Rattle.hk_settle_tests.proofs.product.require_number.Given as goal

abbrev pub invariant-loop-lit : goal.invariant-loop-lit
invariant-loop-lit l = record {
  vars : l.gates.vars ≡ l.fn.gates.vars;
  items : All (IsWithin l.fn.gates.vars) l.lit-items;
}
