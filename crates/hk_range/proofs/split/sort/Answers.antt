use Rattle.std.proofs.Common.{ap}
use Rattle.std.proofs.lemmas.Result.{on_ok_weaker}
use Rattle.hk_range.specs.Linear.{left_items, right_items}
use Rattle.hk_range.proofs.SumLaws.{keep_law}
use Rattle.hk_range.proofs.split.sort.Goals as goal

pub returns-in-Some-clause-left : goal.returns-in-Some-clause-left
returns-in-Some-clause-left c =
    on_ok_weaker c.keep.result
    (λ h f.
    keep_law c.args.c (left_items f c.keep.new.items.items) (left_items f c.args.into.now.upper.items) (left_items f c.args.into.now.lower.items) c.in-Some.part.left c.args.item.now.left (f c.in-Some.part.term)
    (f c.args.item.now.term) (h f) c.in-Some.ensures.1 (ap f c.in-Some.ensures.0))
    c.keep.ensures.left

pub returns-in-Some-clause-right : goal.returns-in-Some-clause-right
returns-in-Some-clause-right c =
    on_ok_weaker c.keep.result
    (λ h f.
    keep_law c.args.c (right_items f c.keep.new.items.items) (right_items f c.args.into.now.upper.items) (right_items f c.args.into.now.lower.items) c.in-Some.part.right c.args.item.now.right (f c.in-Some.part.term)
    (f c.args.item.now.term) (h f) c.in-Some.ensures.2 (ap f c.in-Some.ensures.0))
    c.keep.ensures.right
