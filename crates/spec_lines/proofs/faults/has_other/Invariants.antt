use Rattle.std.proofs.Common.{◌≡◌, drop}
use Rattle.std.specs.Prelude.{is_none}
use Rattle.std.specs.List.{list_any}
use Rattle.spec_lines.proofs.faults.has_other.Given as goal

abbrev pub invariant-each : goal.invariant-each
invariant-each l = list_any is_none (drop l.place-index l.equated) ≡ list_any is_none l.equated
