use Rattle.std.proofs.Common.{ℕ, ◌+◌, take}
use Rattle.hk_range.specs.Linear.{left_items, right_items, numbers}
use Rattle.hk_range.proofs.ItemLaws.{ends_more, ends_all}
use Rattle.hk_range.proofs.ends.ends_from.Goals as goal

pub loop-item-preserved : goal.loop-item-preserved
loop-item-preserved c = λ v k.
    let f : ℕ → ℕ = numbers c.args.t.now v in
    let xs = c.args.items.now in
    let i = c.loop-item.item-index in
    ends_more c.in_ok-ends.ends f xs i c.item-item.result c.args.left c.args.right c.loop-item-test.true c.item-item.is
    (c.in_ok-ends.ensures v (c.args.left + left_items f (take i xs)) (c.args.right + right_items f (take i xs)) k (c.loop-item.invariant v k))

pub returns : goal.returns
returns c = λ v k.
    ends_all c.loop-item.ends (numbers c.args.t.now v) c.args.items.now c.loop-item.item-index c.args.left c.args.right c.loop-item-test.false (c.loop-item.invariant v k)
