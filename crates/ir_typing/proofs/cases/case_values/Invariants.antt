use Rattle.std.proofs.Common.{◌≡◌, ℕ, ℤ, List, map, take}
use Rattle.ir_typing.specs.Fits.{modulo}
use Rattle.ir_typing.proofs.cases.case_values.Given as goal

abbrev pub invariant-each : goal.invariant-each
invariant-each l = l.values.items ≡ map (λ (c : ℤ × List ℕ). modulo l.width c.0) (take l.case-index l.cases)
