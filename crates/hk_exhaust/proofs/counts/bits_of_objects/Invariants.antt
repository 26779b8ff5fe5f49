use Rattle.std.proofs.Common.{◌≡◌, ◌+◌, ◌-◌, ◌^◌, ◌≤◌, min, drop, sum_by}
use Rattle.hk_case.specs.Obligations as definition
use Rattle.hk_exhaust.proofs.counts.bits_of_objects.Given as goal

abbrev pub invariant-each : goal.invariant-each
invariant-each l = record {
  fits : l.bits ≤ 2 ^ 64 - 1;
  bits : min (l.bits + sum_by definition.object_bits (drop l.k l.layout.objects)) (2 ^ 64 - 1) ≡ min (sum_by definition.object_bits l.layout.objects) (2 ^ 64 - 1);
}
