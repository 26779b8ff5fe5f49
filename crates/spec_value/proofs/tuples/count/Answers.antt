use Rattle.std.proofs.Common.{rules, arith, ◌≡◌, ◌<◌, length, slice_index_or}
use Rattle.spec_tree.specs.Sorted.{product}
use Rattle.spec_value.proofs.Steps.{counts_below}
use Rattle.spec_value.proofs.tuples.count.Goals as goal

pub overflow_mul-all : goal.overflow_mul-all
overflow_mul-all c =
    let is : c.from-all.result ≡ slice_index_or c.args.sizes.now c.each.size-index 0 = search rules in
    let low : c.each.size-index < length c.args.sizes.now = search rules in
    let most = counts_below c.args.sizes.now c.each.size-index c.from-all.result 0 c.each.all (product c.args.sizes.now) c.requires.some low is c.each.invariant in
    omega (arith, most, c.requires.few)
