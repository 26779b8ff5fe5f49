use Rattle.std.proofs.Common.{◌≡◌, ◌++◌, ◌-◌, replicate}
use Rattle.hk_exhaust.specs.Enumeration.{numbers_of, behind}
use Rattle.hk_exhaust.proofs.numbers.take_bytes.Given as goal

abbrev pub invariant-each : goal.invariant-each
invariant-each l = record {
  bytes : l.bytes.items ++ numbers_of (replicate (l.count - l.k) 8) l.rest ≡ numbers_of (replicate l.count 8) l.initial.rest;
  behind : behind (replicate (l.count - l.k) 8) l.rest ≡ behind (replicate l.count 8) l.initial.rest;
}
