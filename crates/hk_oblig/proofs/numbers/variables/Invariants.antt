use Rattle.std.proofs.Common.{◌≡◌, ◌+◌, ◌++◌, drop}
use Rattle.hk_term.specs.Tables.{number_at}
use Rattle.hk_oblig.specs.Cases.{arguments_from}
use Rattle.hk_oblig.proofs.numbers.variables.Given as goal

abbrev pub invariant-each : goal.invariant-each
invariant-each l = record {
  id : l.id ≡ l.first + l.width-index;
  numbers : l.numbers.items ++ arguments_from l.id (drop l.width-index l.widths) (number_at l.vars) ≡ arguments_from l.first l.widths (number_at l.vars);
}
