use Rattle.std.proofs.Common.{◌≡◌, ◌+◌, ◌-◌, ◌^◌, min, map, sum_by, subst, arith}
use Rattle.spec_tree.specs.Sorted.{IsFieldSort, sort_of}
use Rattle.spec_tree.specs.View.{view_field}
use Rattle.hk_case.specs.Obligations as definition
use Rattle.spec_state.proofs.Turns.{drop_end, all_at}
use Rattle.hk_exhaust.proofs.counts.bits_of_fields.Goals as goal

pub field_bits-requires : goal.field_bits-requires
field_bits-requires c = all_at (λ f. IsFieldSort (sort_of f)) view_field c.args.fields.now c.each.field-index c.field-item.result c.each-test.true c.field-item.is c.requires

pub returns : goal.returns
returns c =
    let all = sum_by definition.field_bits (map view_field c.args.fields.now) in
    let i : min (c.each.bits + 0) (2 ^ 64 - 1) ≡ min all (2 ^ 64 - 1) =
    subst (λ l. min (c.each.bits + sum_by definition.field_bits (map view_field l)) (2 ^ 64 - 1) ≡ min all (2 ^ 64 - 1)) (drop_end c.args.fields.now c.each.field-index c.each-test.false) c.each.invariant.bits in
    omega (arith, i, c.each.invariant.fits)
