use Rattle.std.proofs.Common.{arith, ℕ, ◌<◌, ◌≤◌, ◌+◌, ◌-◌, ◌/◌, length}
use Rattle.hk_lrat.proofs.Look.{low-at, high-at}
use Rattle.hk_lrat.proofs.table.search.Goals as goal

middle-below : (low high n : ℕ) → low < high → high ≤ n → low + (high - low) / 2 < n
middle-below low high n a b = omega arith

pub loop-low-preserved-then-found-id-2 : goal.loop-low-preserved-then-found-id-2
loop-low-preserved-then-found-id-2 c = (
  c.loop-low.invariant.0,
  low-at c.args.table.now c.args.id _ c.requires (middle-below c.loop-low.low c.loop-low.high (length c.args.table.now) c.loop-low-test.true c.loop-low.invariant.0) c.if-found-id-2.true,
  c.loop-low.invariant.2,
)

pub loop-low-preserved : goal.loop-low-preserved
loop-low-preserved c = (
  (let h : c.loop-low.low + (c.loop-low.high - c.loop-low.low) / 2 < length c.args.table.now = middle-below c.loop-low.low c.loop-low.high (length c.args.table.now) c.loop-low-test.true c.loop-low.invariant.0 in omega (arith, h)),
  c.loop-low.invariant.1,
  high-at c.args.table.now c.args.id _ c.requires (middle-below c.loop-low.low c.loop-low.high (length c.args.table.now) c.loop-low-test.true c.loop-low.invariant.0) c.if-found-id-2.false c.if-found-id.false,
)
