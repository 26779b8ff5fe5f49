use Rattle.std.proofs.Common.{◌≡◌, ◌+◌, ◌-◌, ◌^◌, ◌≤◌, min, drop, sum}
use Rattle.hk_exhaust.proofs.counts.bits_of_arguments.Given as goal

abbrev pub invariant-each : goal.invariant-each
invariant-each l = record {
  fits : l.bits ≤ 2 ^ 64 - 1;
  bits : min (l.bits + sum (drop l.width-index l.widths)) (2 ^ 64 - 1) ≡ min (sum l.widths) (2 ^ 64 - 1);
}
