use Rattle.std.proofs.Common.{rules, ◌<◌, length, map, arith}
use Rattle.spec_tree.specs.Sorted.{product, key_sizes}
use Rattle.spec_tree.specs.View.{view_key}
use Rattle.spec_value.proofs.Steps.{counts_below}
use Rattle.hk_oblig.proofs.Turns.{size_there, product_on, many_keys}
use Rattle.hk_oblig.proofs.numbers.entries_in.Goals as goal

pub overflow_mul-all : goal.overflow_mul-all
overflow_mul-all c =
    let keys = c.args.keys.now in
    let ns = key_sizes (map view_key keys) in
    let low : c.each.k < length keys = search rules in
    let most = counts_below ns c.each.k c.size_at-all.result 0 c.each.all (product ns) c.requires.some (omega (arith, low, many_keys keys)) (size_there keys c.each.k c.size_at-all.result low c.size_at-all.ensures) c.each.invariant in
    omega (arith, most, c.requires.few)

pub each-preserved : goal.each-preserved
each-preserved c =
    let keys = c.args.keys.now in
    let ns = key_sizes (map view_key keys) in
    let low : c.each.k < length keys = search rules in
    product_on ns c.each.k c.size_at-all.result c.each.all (product ns) (omega (arith, low, many_keys keys)) (size_there keys c.each.k c.size_at-all.result low c.size_at-all.ensures) c.each.invariant
