use Rattle.std.proofs.Common.{◌≡◌, ℕ, length}
use Rattle.ir_check.specs.Tallies.{times_at, row_at}
use Rattle.ir_check.proofs.SourceLaws.{first_targets}
use Rattle.ir_check.proofs.sources.sources_of.Given as goal

abbrev pub invariant-loop-node : goal.invariant-loop-node
invariant-loop-node l = record {
  count : length l.rows.items ≡ length l.graph;
  rows : (t q : ℕ) → times_at (row_at l.rows.items t) q ≡ times_at (first_targets l.graph l.node q) t;
}
