use Rattle.std.proofs.Common.{rules, ◌≡◌, ◌+◌, ◌-◌, ◌^◌, ◌<◌, min, length, sum_by, drop, get_or, arith}
use Rattle.hk_case.specs.Obligations as definition
use Rattle.hk_exhaust.proofs.Parts.{added_cut, at_place, no_object}
use Rattle.hk_exhaust.proofs.counts.bits_of_objects.Goals as goal

pub each-preserved : goal.each-preserved
each-preserved c =
    let os = c.args.layout.now.objects in
    let low : c.each.k < length os = search rules in
    let e : c.saturating_add-bits.result ≡ min (c.each.bits + c.object_bits.result) (2 ^ 64 - 1) = search rules in
    record {
      fits = omega (arith, e);
      bits = added_cut definition.object_bits (2 ^ 64 - 1) c.each.bits c.saturating_add-bits.result (sum_by definition.object_bits os) c.object_bits.result (get_or os c.each.k no_object) (drop c.each.k os) (drop (c.each.k + 1) os)
          (at_place os c.each.k no_object low) (c.object_bits.ensures no_object) e c.each.invariant.bits;
    }
