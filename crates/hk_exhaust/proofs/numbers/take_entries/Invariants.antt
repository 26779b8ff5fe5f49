use Rattle.std.proofs.Common.{◌≡◌, ◌++◌, ◌-◌, replicate}
use Rattle.hk_exhaust.specs.Enumeration.{numbers_of, behind}
use Rattle.hk_exhaust.proofs.numbers.take_entries.Given as goal

abbrev pub invariant-each : goal.invariant-each
invariant-each l = record {
  numbers : l.numbers.items ++ numbers_of (replicate (l.count - l.k) l.width) l.rest ≡ numbers_of (replicate l.count l.width) l.initial.rest;
  behind : behind (replicate (l.count - l.k) l.width) l.rest ≡ behind (replicate l.count l.width) l.initial.rest;
}
