use Rattle.std.proofs.Common.{◌≡◌, ℕ, ◌+◌, cond, nat_eq, drop, length}
use Rattle.ir_check.specs.Tallies.{times_at, row_at}
use Rattle.ir_check.proofs.sources.add_sources.Given as goal

abbrev pub invariant-loop-target : goal.invariant-loop-target
invariant-loop-target l = record {
  count : length l.rows.items ≡ length l.initial.rows.items;
  rows : (t q : ℕ) → times_at (row_at l.rows.items t) q + cond (nat_eq q l.source) (times_at (drop l.target-index l.targets) t) 0 ≡ times_at (row_at l.initial.rows.items t) q + cond (nat_eq q l.source) (times_at l.targets t) 0;
}
