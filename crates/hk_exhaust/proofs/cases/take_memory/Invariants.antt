use Rattle.std.proofs.Common.{◌≡◌, ◌++◌, drop}
use Rattle.hk_exhaust.specs.Enumeration.{memory_at, behind_memory}
use Rattle.hk_exhaust.proofs.cases.take_memory.Given as goal

abbrev pub invariant-each : goal.invariant-each
invariant-each l = record {
  memory : l.objects.items ++ memory_at (drop l.k l.layout.objects) l.rest ≡ memory_at l.layout.objects l.initial.rest;
  behind : behind_memory (drop l.k l.layout.objects) l.rest ≡ behind_memory l.layout.objects l.initial.rest;
}
