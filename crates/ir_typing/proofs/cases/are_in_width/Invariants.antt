use Rattle.std.proofs.Common.{◌≡◌, ℕ, ℤ, List, drop}
use Rattle.std.specs.List.{list_all}
use Rattle.ir_typing.specs.Fits.{fits_width}
use Rattle.ir_typing.proofs.cases.are_in_width.Given as goal

abbrev pub invariant-each : goal.invariant-each
invariant-each l = list_all (λ (c : ℤ × List ℕ). fits_width l.width c.0) (drop l.case-index l.cases) ≡ list_all (λ (c : ℤ × List ℕ). fits_width l.width c.0) l.cases
