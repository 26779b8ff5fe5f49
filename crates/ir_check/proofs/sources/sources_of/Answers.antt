use Rattle.std.proofs.Common.{◌≡◌, ℕ, ◌+◌, ◌<◌, ◌∙◌, cond, nat_eq, length, sym, subst, arith}
use Rattle.std.specs.Prelude.{slice_index_or}
use Rattle.ir_check.specs.Tallies.{times_at, row_at}
use Rattle.ir_check.proofs.SourceLaws.{rows_more, targets_within}
use Rattle.ir_check.proofs.sources.sources_of.Goals as goal

pub add_sources-requires : goal.add_sources-requires
add_sources-requires c = subst (λ n. (k d : ℕ) → k < length c.targets.result.now → slice_index_or c.targets.result.now k d < n) (sym c.loop-node.invariant.count)
    (targets_within c.args.graph.now c.loop-node.node c.targets.result.now c.requires.within c.targets.ensures)

pub loop-node-preserved : goal.loop-node-preserved
loop-node-preserved c = record {
  count = c.in_ok-add_sources.ensures.count ∙ c.loop-node.invariant.count;
  rows = rows_more c.args.graph.now c.loop-node.rows.items c.add_sources.new.rows.items c.loop-node.node (omega arith) c.loop-node.invariant.rows
      (subst (λ ts. (t q : ℕ) → times_at (row_at c.add_sources.new.rows.items t) q ≡ times_at (row_at c.loop-node.rows.items t) q + cond (nat_eq q c.loop-node.node) (times_at ts t) 0) c.targets.ensures c.in_ok-add_sources.ensures.rows);
}
