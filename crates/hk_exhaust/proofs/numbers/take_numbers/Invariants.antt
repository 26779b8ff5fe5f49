use Rattle.std.proofs.Common.{◌≡◌, ◌++◌, drop}
use Rattle.hk_exhaust.specs.Enumeration.{numbers_of, behind}
use Rattle.hk_exhaust.proofs.numbers.take_numbers.Given as goal

-- what is left ends as the whole does
abbrev pub invariant-each : goal.invariant-each
invariant-each l = record {
  numbers : l.numbers.items ++ numbers_of (drop l.width-index l.widths) l.rest ≡ numbers_of l.widths l.initial.rest;
  behind : behind (drop l.width-index l.widths) l.rest ≡ behind l.widths l.initial.rest;
}
