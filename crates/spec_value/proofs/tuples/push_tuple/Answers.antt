use Rattle.std.proofs.Common.{rules, ap, ◌∙◌, drop, ◌≡◌, ◌+◌, ◌<◌, ◌++◌, length, ◌/◌, ◌%◌, [], ◌∷◌, slice_index_or}
use Rattle.spec_tree.specs.Value.{tuple_at}
use Rattle.spec_value.proofs.Steps.{stride_next, rest_next, left_next}
use Rattle.spec_value.proofs.tuples.push_tuple.Goals as goal

pub each-preserved : goal.each-preserved
each-preserved c =
    let ns = c.args.sizes.now in
    let k = c.each.size-index in
    let n = c.from-stride.result in
    let i = c.each.invariant in
    let is : n ≡ slice_index_or ns k 0 = search rules in
    let low : k < length ns = search rules in
    let items : c.push.new.self.items ≡ c.each.tuple.items ++ c.each.rest / (c.each.stride / n) ∷ [] = search rules in
    record {
      stride = stride_next ns k n 0 c.each.stride c.each.rest low is i.stride i.within;
      within = rest_next ns k n 0 c.each.stride c.each.rest low is i.stride i.within;
      left = ap (λ t. t ++ tuple_at (drop (k + 1) ns) (c.each.rest % (c.each.stride / n))) items ∙ left_next ns c.each.tuple.items k n 0 c.each.stride c.each.rest low is i.stride i.within ∙ i.left;
    }
