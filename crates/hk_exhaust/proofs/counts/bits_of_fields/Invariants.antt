use Rattle.std.proofs.Common.{◌≡◌, ◌+◌, ◌-◌, ◌^◌, ◌≤◌, min, drop, map, sum_by}
use Rattle.spec_tree.specs.View.{view_field}
use Rattle.hk_case.specs.Obligations as definition
use Rattle.hk_exhaust.proofs.counts.bits_of_fields.Given as goal

abbrev pub invariant-each : goal.invariant-each
invariant-each l = record {
  fits : l.bits ≤ 2 ^ 64 - 1;
  bits : min (l.bits + sum_by definition.field_bits (map view_field (drop l.field-index l.fields))) (2 ^ 64 - 1) ≡ min (sum_by definition.field_bits (map view_field l.fields)) (2 ^ 64 - 1);
}
