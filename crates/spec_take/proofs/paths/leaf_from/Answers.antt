use Rattle.std.proofs.Common.{◌∙◌}
use Rattle.spec_take.proofs.Leaves.{leaf_next}
use Rattle.spec_take.proofs.paths.leaf_from.Goals as goal

pub each-preserved : goal.each-preserved
each-preserved c =
    record {
      known = c.in_ok-at.ensures.known;
      left = leaf_next c.args.kernel.now c.as_slice-items.result.now c.each.step-index c.step-item.result c.each.at c.in_ok-at.at c.step-item.is c.each-test.true c.in_ok-at.ensures.shape ∙ c.each.invariant.left;
    }
