use Rattle.std.proofs.Common.{length, drop, map, ap, ◌+◌, ◌%◌, ◌/◌, ◌++◌, ◌∙◌}
use Rattle.spec_tree.specs.Sorted.{key_sizes}
use Rattle.spec_tree.specs.Value.{tuple_at}
use Rattle.spec_tree.specs.View.{view_key}
use Rattle.hk_verdict.proofs.Listed.{one_longer}
use Rattle.hk_verdict.proofs.Tuples.{stride_positive, stride_next, rest_next, left_next}
use Rattle.hk_verdict.proofs.entries.tuple_of.Goals as goal

pub nonzero_div-rest : goal.nonzero_div-rest
nonzero_div-rest c = stride_positive c.args.keys.now c.each.key-index c.size_at-stride.result _ c.each.stride c.each.rest c.each-test.true c.size_at-stride.ensures c.each.invariant.stride c.each.invariant.within

pub nonzero_rem-rest : goal.nonzero_rem-rest
nonzero_rem-rest c = stride_positive c.args.keys.now c.each.key-index c.size_at-stride.result _ c.each.stride c.each.rest c.each-test.true c.size_at-stride.ensures c.each.invariant.stride c.each.invariant.within

pub each-preserved : goal.each-preserved
each-preserved c =
    let stride = c.each.stride / c.size_at-stride.result in
    let rest = tuple_at (drop (c.each.key-index + 1) (key_sizes (map view_key c.args.keys.now))) (c.each.rest % stride) in
    record {
      counted = ap length c.push.ensures.items ∙ one_longer c.each.tuple.items _ ∙ ap (λ n. n + 1) c.each.invariant.counted;
      stride = stride_next c.args.keys.now c.each.key-index c.size_at-stride.result _ c.each.stride c.each.rest c.each-test.true c.size_at-stride.ensures c.each.invariant.stride c.each.invariant.within;
      within = rest_next c.args.keys.now c.each.key-index c.size_at-stride.result _ c.each.stride c.each.rest c.each-test.true c.size_at-stride.ensures c.each.invariant.stride c.each.invariant.within;
      left = ap (λ t. t ++ rest) c.push.ensures.items ∙ left_next c.args.keys.now c.each.key-index c.size_at-stride.result _ c.each.stride c.each.rest c.each-test.true c.size_at-stride.ensures c.each.invariant.stride c.each.invariant.within c.each.tuple.items ∙ c.each.invariant.left;
    }
