use Rattle.hk_flow.proofs.Visiting.{targets_within}
use Rattle.hk_flow.proofs.totals.sum_of.Goals as goal

pub add_targets-requires : goal.add_targets-requires
add_targets-requires c = record {
  targets = targets_within c.args.graph.now c.args.node c.targets.result.now _ c.requires.within c.requires.totals c.targets.ensures;
}
